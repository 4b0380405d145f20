-- `call_verdict`: its name tells the line that it is meant for, the settings whether that is allowed.
use Rattle.std.specs.Prelude.{if◌then◌else◌}
use Prim.Native.Nat.{ℕ}
use mathlib.Core.Path.{◌≡◌, refl, sym, ap, ◌∙◌}
use mathlib.Core.Bool.{Bool, true, false}
use mathlib.Core.List.{List}
use Rattle.definitions.specs.Words.Expression.{call, Exprs, Record}
use Rattle.definitions.specs.Filter.Verdicts.{kind_left_out, verdict_under}
use Rattle.leaf_verdicts.specs.Laid.{CallLaid}
use Rattle.leaf_verdicts.specs.declared.lines.PriceLine.{PriceLine}
use Rattle.definitions.specs.Filter.Verdicts as definitions
use Rattle.terms.specs.Settings.{settings_of}
use Rattle.leaf_verdicts.proofs.LaidLaws.{call-row}
use Rattle.leaf_verdicts.specs.Cases.{line_of}
use Rattle.leaf_verdicts.proofs.StageLaws.{kept, call-told}
use Rattle.leaf_verdicts.proofs.leaf.call_verdict.Goals as goal
use Rattle.leaf_verdicts.proofs.leaf.call_verdict.Goals.{After-left_out}

-- Its verdict by its line, and by whether the settings leave that out.
told : (c : After-left_out) {records : List Record} {name : List ℕ} {ts : Exprs}
    → let f = c.args.asked.filter in
    CallLaid f.tree.bytes.now f.rec f.tree.nodes.now c.args.called c.args.i records name ts
    → (out : Bool) → c.left_out.result ≡ out → (line : PriceLine) → c.line_named-line.result ≡ line
    → verdict_under (settings_of c.args.asked.settings) records (call name ts)
    ≡ (if out then kind_left_out else kept (settings_of c.args.asked.settings) records (call name ts) (line_of line) ts)
told c {records} {name} {ts} h out is line e =
    call-told _ records name ts (line_of line)
    (ap line_of (sym e) ∙ (rw (c.name.ensures, h.over.stands.spelling) at c.line_named-line.ensures))
    out (ap (λ line. definitions.left_out (settings_of c.args.asked.settings) (line_of line)) (sym e) ∙ sym c.left_out.ensures ∙ is)

pub name-requires : goal.name-requires
name-requires c = (_, c.requires.1, c.requires.2, c.requires.3.over.stands)

pub relation_verdict-requires : goal.relation_verdict-requires
relation_verdict-requires c = (_, c.requires.0, c.requires.2, call-row c.requires.3)

pub dwithin_verdict-requires : goal.dwithin_verdict-requires
dwithin_verdict-requires c = (_, c.requires.0, c.requires.2, call-row c.requires.3)

pub knn_verdict-requires : goal.knn_verdict-requires
knn_verdict-requires c = (_, c.requires.0, c.requires.2, call-row c.requires.3)

pub returns-then-left_out : goal.returns-then-left_out
returns-then-left_out c =
    λ records name ts h.
    sym (told (goal.at.returns-then-left_out c).After-left_out h true c.if-left_out.true _ refl)

pub returns-in-Relation : goal.returns-in-Relation
unfolding kept
returns-in-Relation c =
    λ records name ts h.
    c.relation_verdict.ensures _ records ts (call-row h)
    ∙ sym (told (goal.at.returns-in-Relation c).After-left_out h false c.if-left_out.false _ c.in-Relation.is)

pub returns-in-Distance : goal.returns-in-Distance
unfolding kept
returns-in-Distance c =
    λ records name ts h.
    c.dwithin_verdict.ensures _ records ts (call-row h)
    ∙ sym (told (goal.at.returns-in-Distance c).After-left_out h false c.if-left_out.false _ c.in-Distance.is)

pub returns-in-Knn : goal.returns-in-Knn
unfolding kept
returns-in-Knn c =
    λ records name ts h.
    c.knn_verdict.ensures _ records ts (call-row h)
    ∙ sym (told (goal.at.returns-in-Knn c).After-left_out h false c.if-left_out.false _ c.in-Knn.is)

pub returns-in-None : goal.returns-in-None
unfolding kept
returns-in-None c =
    λ records name ts h.
    c.other_call_verdict.ensures records name ts h
    ∙ sym (told (goal.at.returns-in-None c).After-left_out h false c.if-left_out.false _ c.in-None.is)
