-- `right_index`: by the index that is known, or by a scan.
use Rattle.remainder.proofs.rests.right_index.Goals as goal

pub after_within-requires : goal.after_within-requires
after_within-requires c = rw c.in-Some.is at c.requires.1

pub after-requires : goal.after-requires
after-requires c = c.requires.0
