-- Each refusal is the definition's; the frame is kept in the scratch and its extraction written from there.
use lib.ListN.{take}
use Rattle.definitions.specs.Filter.Settings.{match_under}
use Rattle.terms.specs.Settings.{settings_of}
use Rattle.theorems.proofs.SettingsLaws.{settings-laws}
use Rattle.leaf_pick.specs.Picks.{TakenIs}
use Rattle.node_reader.proofs.Standing.{all-bytes}
use Rattle.call_extract.proofs.held_frame.Extracting.{scratch-short, no-leaf, over, indexed-noded, noded-kept, extraction-fits, extracts}
use Rattle.call_extract.proofs.held_frame.extract_frame.Goals as goal
use Rattle.call_extract.proofs.held_frame.extract_frame.Goals.{In-Some}

-- What the pick took, of the held frame.
taken : (c : In-Some)
    → let h = c.requires.holds_frame in
    TakenIs (match_under (settings_of c.args.settings.settings)) (take c.args.n c.args.plan.now) c.args.held.frame.root c.in-Some.pick
    h.frame.records h.frame.expr
taken c =
    rw c.in-Some.is at
    (c.extract_in_one_walk-walked.ensures _ _
    (over (match_under (settings_of c.args.settings.settings)) c.args.n c.args.plan.now c.args.scratch.now c.requires.holds_frame)).picked

pub returns-then-scratch-n : goal.returns-then-scratch-n
returns-then-scratch-n c =
    rw c.refused.ensures (scratch-short _ _ _ _ c.requires.holds_frame c.if-scratch-n.true)

pub extract_in_one_walk-walked-requires-clause-of_tree : goal.extract_in_one_walk-walked-requires-clause-of_tree
extract_in_one_walk-walked-requires-clause-of_tree c =
    indexed-noded (match_under (settings_of c.args.settings.settings)) c.args.n c.args.plan.now c.args.scratch.now c.requires.holds_frame
    c.requires.indexed

pub put_extraction-length-requires-clause-extraction_fits : goal.put_extraction-length-requires-clause-extraction_fits
put_extraction-length-requires-clause-extraction_fits c =
    let a = c.args in
    extraction-fits (match_under (settings_of c.args.settings.settings)) a.n a.plan.now a.scratch.now c.requires.holds_frame
    (settings-laws (settings_of c.args.settings.settings) c.args.settings.good)
    (all-bytes a.plan.now c.slice_known-1.given) _
    (taken (goal.at.put_extraction-length-requires-clause-extraction_fits c).In-Some) _ c.copy_bytes.ensures

pub put_extraction-length-requires-clause-of_tree : goal.put_extraction-length-requires-clause-of_tree
put_extraction-length-requires-clause-of_tree c =
    noded-kept (match_under (settings_of c.args.settings.settings)) c.args.n c.args.plan.now c.args.scratch.now c.requires.holds_frame
    c.requires.indexed _ c.copy_bytes.ensures

pub returns-in-None : goal.returns-in-None
returns-in-None c =
    let a = c.args in
    let walked = c.extract_in_one_walk-walked.ensures _ _
    (over (match_under (settings_of c.args.settings.settings)) a.n a.plan.now a.scratch.now c.requires.holds_frame) in
    no-leaf (match_under (settings_of c.args.settings.settings)) a.n a.plan.now a.scratch.now c.requires.holds_frame c.if-scratch-n.false
    (rw c.in-None.is at walked.picked) _ walked.walk

pub returns-in-Some : goal.returns-in-Some
returns-in-Some c =
    let written = c.put_extraction-length in
    extracts (match_under (settings_of c.args.settings.settings)) c.args.n c.args.plan.now c.args.scratch.now c.requires.holds_frame
    (settings-laws (settings_of c.args.settings.settings) c.args.settings.good)
    (all-bytes c.args.plan.now c.slice_known-1.given) _
    (taken (goal.at.returns-in-Some c).In-Some) _ c.copy_bytes.ensures
    c.if-scratch-n.false written.new.out written.result written.ensures _
    (c.extract_in_one_walk-walked.ensures _ _
    (over (match_under (settings_of c.args.settings.settings)) c.args.n c.args.plan.now c.args.scratch.now c.requires.holds_frame)).walk
