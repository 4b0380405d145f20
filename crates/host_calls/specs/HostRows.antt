-- Single answers as one number, by computation: rounds or a queue over a length, and a refusal.
use Rattle.std.specs.Prelude.{◌≡◌, pos, neg_ℤ}
use Rattle.definitions.specs.Words.Basics.{ok, refused}
use Rattle.definitions.specs.Calls.Queues.{fixed_unit}
use Rattle.definitions.specs.Calls.QueueBytes.{frame_from}
use Rattle.host_calls.specs.Hosts.{hosted_all, hosted_serve}

pub record HostRows : Type 0 where
  -- request 14: 4 · 65,536 + 81, or minus the refusal
  pub all-number : hosted_all 4 (ok 81) ≡ pos 262225
  pub all-refusal : hosted_all 0 (refused 9) ≡ neg_ℤ (pos 9)
  -- request 12: queue 1 and three bytes
  pub serve-number : hosted_serve (ok (frame_from fixed_unit 3)) ≡ pos 65539
