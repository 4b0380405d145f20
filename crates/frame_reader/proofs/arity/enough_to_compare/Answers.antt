-- `enough_to_compare`: both sides have an index, and the one that is read is asked.
use mathlib.Core.Path.{sym, ◌∙◌}
use Rattle.sedona_expr.proofs.Comparing.{pair-node, index-sides}
use Rattle.frame_reader.proofs.ArityLaws.{not-asked, asked}
use Rattle.frame_reader.proofs.arity.enough_to_compare.Goals as goal

pub after-requires : goal.after-requires
after-requires c =
    pair-node c.requires

pub enough_to_measure-requires : goal.enough_to_measure-requires
enough_to_measure-requires c =
    let p = c.requires in
    let both = index-sides _ c.after.ensures c.in-Some.ensures p.0 p.1 p.2 p.3 p.4 p.5 in
    (p.0, both.stands_measured.at, both.m, both.stands_measured.stands, both.stands_measured.noded)

pub returns-in-Some : goal.returns-in-Some
returns-in-Some c =
    λ d at l r row h.
    let both = index-sides _ c.after.ensures c.in-Some.ensures d at l r row h in
    c.enough_to_measure.ensures d _ both.m both.stands_measured.stands both.stands_measured.noded ∙ sym (asked _ l r both)

pub returns-in-None : goal.returns-in-None
returns-in-None c =
    λ d at l r row h. sym (not-asked _ l r (index-sides _ c.after.ensures c.in-None.ensures d at l r row h))
