-- Single answers as one number hold by computation.
use mathlib.Core.Path.{refl}
use Rattle.host_calls.specs.Hosts.{hosted_all, hosted_serve}
use Rattle.host_calls.specs.HostRows.{HostRows}

pub host-rows-hold : HostRows
unfolding hosted_all hosted_serve
host-rows-hold = record { all-number = refl; all-refusal = refl; serve-number = refl }
