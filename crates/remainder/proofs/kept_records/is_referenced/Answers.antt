-- `is_referenced`: a marked record equals itself; the key of any other is looked for if its last byte is that of one.
use Prim.Native.Nat.{ℕ, ◌+◌, ◌*◌, ◌<◌}
use mathlib.Core.Path.{◌≡◌, ◌∙◌, subst}
use mathlib.Core.Bool.{Bool, false}
use mathlib.Core.List.{List}
use lib.ListN.{length}
use Rattle.std.proofs.Math.Bool.{Bool-set}
use Rattle.std.proofs.Math.Logic.{∥∥₁_elim}
use Rattle.remainder.specs.Keys.{key_at, AmongIs, KeyRow}
use Rattle.remainder.specs.Records.{Referenced}
use Rattle.remainder.proofs.KeyLaws.{end-apart}
use Rattle.remainder.proofs.RecordLaws.{marked-stays, among-stays}
use Rattle.remainder.proofs.kept_records.is_referenced.Goals as goal

-- It stays if its key is among theirs.
by_key : {s : List ℕ} {rec count : ℕ} {flags keys : List ℕ} → ∥ KeyRow s rec count flags keys (length keys) ∥₁
    → (j : ℕ) → j < count → (key : ℕ) → key ≡ key_at s (rec + 5 * j) → (answer : Bool) → AmongIs keys (length keys) key answer
    → Referenced s rec count flags j answer
by_key {keys = keys} some_row j below key is answer told = λ records columns m.
    ∥∥₁_elim some_row (Bool-set _ _) (λ row.
    among-stays m j below row answer (subst (λ k. AmongIs keys (length keys) k answer) is told))

pub returns-then-keyed-j-eq1 : goal.returns-then-keyed-j-eq1
returns-then-keyed-j-eq1 c =
    λ records columns m. marked-stays m c.args.j c.requires c.if-keyed-j-eq1.true

pub returns-then-keyed-key : goal.returns-then-keyed-key
returns-then-keyed-key c =
    let key = c.record_key-key in
    by_key c.args.keyed.row c.args.j c.requires key.result key.ensures c.among.result c.among.ensures

pub returns-else-keyed-key : goal.returns-else-keyed-key
returns-else-keyed-key c =
    λ records columns m.
    let key = c.record_key-key in
    let none = end-apart c.args.keyed.ended key.result c.if-keyed-key.false in
    c.if-keyed-key.false ∙ by_key c.args.keyed.row c.args.j c.requires key.result key.ensures false none records columns m
