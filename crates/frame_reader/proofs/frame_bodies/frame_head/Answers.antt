-- A frame is its column count and so many records, and then what is left to read.
use mathlib.Core.Path.{◌∙◌}
use Rattle.definitions.specs.Bytes.Decode.{frame_body}
use Rattle.theorems.proofs.ReaderLaws.{after}
use Rattle.node_reader.proofs.Standing.{all-bytes}
use Rattle.frame_reader.proofs.Heads.{head-stands}
use Rattle.frame_reader.proofs.frame_bodies.frame_head.Goals as goal

pub returns : goal.returns
unfolding frame_body
returns c =
    let many = c.in_ok-columns.ensures in
    let records = c.in_ok-root.ensures in
    head-stands c.args.s.now _ _ _ _ records.1 (all-bytes c.args.s.now c.type_inv.s) many.0 records.0 records.2
    (λ n. after _ (many.1 n) ∙ after _ (records.2 n))
