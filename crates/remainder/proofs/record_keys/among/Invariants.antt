-- `among`: found so far says whether the key is among those passed.
use Rattle.remainder.specs.Keys.{AmongIs}
use Rattle.remainder.proofs.record_keys.among.Given as goal

abbrev pub invariant-loop-k : goal.invariant-loop-k
invariant-loop-k l =
    AmongIs l.keys l.k-index l.key l.found
