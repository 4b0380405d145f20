-- Bytes that became others where they stood: written there, and one part after another.
use Prim.Native.Nat.{ℕ, ◌+◌}
use native.Mathlib.Omega.{arith}
use mathlib.Core.Path.{◌≡◌, sym, ap, ap₂, ◌∙◌}
use mathlib.Core.List.{List, ◌++◌, append_assoc}
use lib.ListN.{length, take, drop, length-append}
use lib.Seq.{take_at, drop_at}
use Rattle.byte_writer.specs.Written.{WroteAt}
use Rattle.call_exchange.specs.Turned.{Turned, TurnedAt}

-- What is written from a place on is there in place of as many bytes.
pub wrote-turned : (x : List ℕ) {y before after : List ℕ} {w r : ℕ} → length x ≡ length y
    → WroteAt w y before after r → TurnedAt w x y before after
wrote-turned x {y} {before} {after} {w} {r} long wrote head at tail is =
    let front : take w before ≡ head = ap (take w) (is ∙ append_assoc head x tail) ∙ take_at head (x ++ tail) w (sym at) in
    let rest : drop (w + length y) before ≡ tail =
    ap (drop (w + length y)) is ∙ drop_at (head ++ x) tail (w + length y) (simp length-append (omega arith)) in
    wrote.out ∙ ap₂ ◌++◌ front (ap (λ (l : List ℕ). y ++ l) rest) ∙ sym (append_assoc head y tail)

-- A part in the middle.
pub middle-turned : {at : ℕ} {x y before after : List ℕ} → TurnedAt at x y before after → (head behind : List ℕ) → at ≡ length head
    → Turned (head ++ (x ++ behind)) (head ++ (y ++ behind)) before after
middle-turned {at} {x} {y} turned head behind e tail is =
    turned head e (behind ++ tail) (is ∙ simp append_assoc) ∙ simp append_assoc
