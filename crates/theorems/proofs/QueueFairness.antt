-- Whatever is called, each queue gives its frames in the order they came, and the queue that was not served last goes first.
use Rattle.std.specs.Prelude.{if◌then◌else◌}
use Prim.Native.Nat.{ℕ, suc, ◌+◌, ◌-◌, ◌*◌, ◌≤◌}
use native.Mathlib.Omega.{arith}
use mathlib.Core.Path.{◌≡◌, refl, sym, ap, ◌∙◌}
use mathlib.Core.Bool.{Bool, true, false}
use mathlib.Core.Logic.{◌⊎◌, inl, inr, ⊎_elim}
use mathlib.Core.List.{List, [], ◌∷◌, ◌++◌, append_assoc, append-nil}
use mathlib.Core.Option.{Option, some}
use lib.ListN.{length, take}
use lib.Dec.{eqb}
use Rattle.definitions.specs.Calls.Queues.{Queue, chassis, fixed_unit, queue_number, other_queue, Mark, last, Frames, State, waiting, with_frames, marked, first_tried}
use Rattle.definitions.specs.Lists.Queues.{QueueMade, same_queue, added, Given, served, given_of}
use Rattle.definitions.specs.Claims.Queues.{ComesOut}
use Rattle.theorems.proofs.QueueChanges.{Turn, put_refused, serve_refused, found_empty, puts, gives, Changes, no_call, call}

-- ---- the frames of a queue after a put and after a serve

put-frames : (q p : Queue) (S : State) (f : List ℕ) (rest : Frames)
    → waiting q (with_frames p (waiting p S ++ (f ∷ [])) S) ++ rest
    ≡ waiting q S ++ (if eqb (queue_number p) (queue_number q) then f ∷ rest else rest)
put-frames chassis chassis S f rest = append_assoc S.of_chassis (f ∷ []) rest
put-frames chassis fixed_unit S f rest = refl
put-frames fixed_unit chassis S f rest = refl
put-frames fixed_unit fixed_unit S f rest = append_assoc S.of_fixed_unit (f ∷ []) rest

give-frames : (q p : Queue) (S : State) (f : List ℕ) (later : Frames) → waiting p S ≡ f ∷ later
    → let left : Frames = waiting q (marked p (with_frames p later S)) in
    waiting q S ≡ (if same_queue p q then f ∷ left else left)
give-frames chassis chassis S f later e = e
give-frames chassis fixed_unit S f later e = refl
give-frames fixed_unit chassis S f later e = refl
give-frames fixed_unit fixed_unit S f later e = e

-- ---- order

one_more : (t : Bool) (f : List ℕ) (out held left came : Frames) → out ++ held ≡ left ++ came
    → (if t then f ∷ out else out) ++ held ≡ (if t then f ∷ left else left) ++ came
one_more true f out held left came e = ap (λ (l : Frames). f ∷ l) e
one_more false f out held left came e = e

pub ordered : {S T : State} {ms : List QueueMade} → Changes S ms T → (q : Queue)
    → given_of q (served ms) ++ waiting q T ≡ waiting q S ++ added q ms
unfolding added served given_of
ordered {S} no_call q = sym (append-nil (waiting q S))
ordered (call put_refused more) q = ordered more q
ordered (call serve_refused more) q = ordered more q
ordered (call (found_empty e) more) q = ordered more q
ordered (call {S = S} {ms = ms} (puts p {frame = f}) more) q = ordered more q ∙ put-frames q p S f (added q ms)
ordered (call {S = S} {U = U} {ms = ms} (gives p {later = later} {n = n} {out = out} e turn) more) q =
    let left : Frames = waiting q (marked p (with_frames p later S)) in
    one_more (same_queue p q) (take n out) (given_of q (served ms)) (waiting q U) left (added q ms) (ordered more q)
    ∙ ap (λ (l : Frames). l ++ added q ms) (sym (give-frames q p S (take n out) later e))

-- ---- fairness

-- Behind j others a frame comes out among the next 2j + 1 where its queue is tried first, else among the next 2j + 2.
abbrev pub InTime : Mark → Queue → (j within : ℕ) → Type 0
InTime mark q j within = ((first_tried mark ≡ q) × (2 * j + 1 ≤ within)) ⊎ (2 * j + 2 ≤ within)

in-time : (mark : Mark) (q : Queue) (j within : ℕ) → InTime mark q j within → 2 * j + 1 ≤ within
in-time mark q j within (inl h) = h.1
in-time mark q j within (inr h) = omega arith

same-queue : (q : Queue) → same_queue q q ≡ true
same-queue chassis = refl
same-queue fixed_unit = refl

other-queue : (q : Queue) → same_queue (other_queue q) q ≡ false
other-queue chassis = refl
other-queue fixed_unit = refl

pub not-other : (q : Queue) → q ≡ other_queue q → ⊥
not-other chassis e = let z : ◌≡◌ {A = ℕ} 0 1 = cc in omega arith
not-other fixed_unit e = let z : ◌≡◌ {A = ℕ} 0 1 = cc in omega arith

not-empty : (f : List ℕ) (ahead behind : Frames) → ahead ++ (f ∷ behind) ≡ [] → ⊥
not-empty f [] behind e = let z : ◌≡◌ {A = ℕ} 0 1 = cc in omega arith
not-empty f (a ∷ ahead) behind e = let z : ◌≡◌ {A = ℕ} 0 1 = cc in omega arith

this-or-other : (p q : Queue) → (p ≡ q) ⊎ (p ≡ other_queue q)
this-or-other chassis chassis = inl refl
this-or-other chassis fixed_unit = inr refl
this-or-other fixed_unit chassis = inr refl
this-or-other fixed_unit fixed_unit = inl refl

mark-kept : (p : Queue) (fs : Frames) (S : State) → (with_frames p fs S).mark ≡ S.mark
mark-kept chassis fs S = refl
mark-kept fixed_unit fs S = refl

taken-from : (q p : Queue) (later : Frames) (S : State) → p ≡ q → waiting q (marked p (with_frames p later S)) ≡ later
taken-from q p later S e = rw e (by-queue q) where
  by-queue : (q : Queue) → waiting q (marked q (with_frames q later S)) ≡ later
  by-queue chassis = refl
  by-queue fixed_unit = refl

left_alone : (q p : Queue) (later : Frames) (S : State) → p ≡ other_queue q
    → waiting q (marked p (with_frames p later S)) ≡ waiting q S
left_alone q p later S e = rw e (by-queue q) where
  by-queue : (q : Queue) → waiting q (marked (other_queue q) (with_frames (other_queue q) later S)) ≡ waiting q S
  by-queue chassis = refl
  by-queue fixed_unit = refl

next-tried : (q p : Queue) → p ≡ other_queue q → first_tried (last p) ≡ q
unfolding first_tried
next-tried q p e = rw e (by-queue q) where
  by-queue : (q : Queue) → other_queue (other_queue q) ≡ q
  by-queue chassis = refl
  by-queue fixed_unit = refl

-- A put leaves a frame as far from the front as it was.
put-behind : (q p : Queue) (S : State) (g : List ℕ) (ahead : Frames) (f : List ℕ) (behind : Frames)
    → waiting q S ≡ ahead ++ (f ∷ behind)
    → (last : Frames) × (waiting q (with_frames p (waiting p S ++ (g ∷ [])) S) ≡ ahead ++ (f ∷ last))
put-behind q p S g ahead f behind w =
    let more : Frames = if eqb (queue_number p) (queue_number q) then g ∷ [] else [] in
    (behind ++ more, sym (append-nil _) ∙ put-frames q p S g [] ∙ ap (λ (l : Frames). l ++ more) w ∙ append_assoc ahead (f ∷ behind) more)

-- A serve that gave this.
abbrev gave : Queue → (frame : List ℕ) → Option Given
gave q g = some (record { queue = q; frame = g })

module _ (q : Queue) (f : List ℕ) where
  -- One of the same queue, and one of the other, given before.
  after_same : {all : List (Option Given)} {j within : ℕ} (g : List ℕ) → 1 ≤ within → ComesOut all q f j (within - 1)
      → ComesOut (gave q g ∷ all) q f (suc j) within
  unfolding given_of
  after_same g more c = record {
    before = gave q g ∷ c.before;
    after = c.after;
    there = ap (λ (l : List (Option Given)). gave q g ∷ l) c.there;
    in_turn = rw (same-queue q) (ap suc c.in_turn);
    in_time = omega (arith, c.in_time);
  }

  after-other : {all : List (Option Given)} {j within : ℕ} (g : List ℕ) → 1 ≤ within → ComesOut all q f j (within - 1)
      → ComesOut (gave (other_queue q) g ∷ all) q f j within
  unfolding given_of
  after-other g more c = record {
    before = gave (other_queue q) g ∷ c.before;
    after = c.after;
    there = ap (λ (l : List (Option Given)). gave (other_queue q) g ∷ l) c.there;
    in_turn = rw (other-queue q) c.in_turn;
    in_time = omega (arith, c.in_time);
  }

  at_once : {all : List (Option Given)} {within : ℕ} (g : List ℕ) → g ≡ f → 1 ≤ within → ComesOut (gave q g ∷ all) q f 0 within
  unfolding given_of
  at_once {all} g e soon = record {
    before = [];
    after = all;
    there = ap (λ (x : List ℕ). gave q x ∷ all) e;
    in_turn = refl;
    in_time = soon;
  }

  module _ (behind : Frames) where
    -- The frame's own queue is served: it comes out, or is nearer to the front.
    own_turn : (all : List (Option Given)) (g : List ℕ) (later : Frames) (within : ℕ) (ahead : Frames)
        → g ∷ later ≡ ahead ++ (f ∷ behind) → 2 * length ahead + 1 ≤ within
        → ((nearer : Frames) → later ≡ nearer ++ (f ∷ behind) → 2 * length nearer + 2 ≤ within - 1
        → ComesOut all q f (length nearer) (within - 1))
        → ComesOut (gave q g ∷ all) q f (length ahead) within
    own_turn all g later within [] e time rest = at_once g (cc) (omega arith)
    own_turn all g later within (a ∷ ahead) e time rest = after_same g (omega arith) (rest ahead (cc) (omega arith))

    -- The other queue is served only if the frame's own is not tried first; then it is next.
    tried-first : (S : State) (ahead : Frames) (within : ℕ) → waiting q S ≡ ahead ++ (f ∷ behind) → Turn (other_queue q) S
        → InTime S.mark q (length ahead) within → 2 * length ahead + 2 ≤ within
    tried-first S ahead within w (inl o) (inl h) = absurd (not-other q (sym h.0 ∙ o))
    tried-first S ahead within w (inr o) (inl h) =
        absurd (not-empty f ahead behind (sym w ∙ sym (ap (λ (p : Queue). waiting p S) h.0) ∙ o))
    tried-first S ahead within w o (inr h) = h

  -- A serve brings the frame out, or leaves enough serves for it.
  served-turn : (S : State) (p : Queue) (g : List ℕ) (later : Frames) (rest : List (Option Given)) → waiting p S ≡ g ∷ later → Turn p S
      → ((ahead behind : Frames) → waiting q (marked p (with_frames p later S)) ≡ ahead ++ (f ∷ behind)
      → (within : ℕ) → InTime (last p) q (length ahead) within → within ≤ length rest → ComesOut rest q f (length ahead) within)
      → (ahead behind : Frames) → waiting q S ≡ ahead ++ (f ∷ behind)
      → (within : ℕ) → InTime S.mark q (length ahead) within → within ≤ suc (length rest)
      → ComesOut (gave p g ∷ rest) q f (length ahead) within
  served-turn S p g later rest e turn goes_on ahead behind w within time enough =
      ⊎_elim
      (λ same.
      rw same
      (own_turn behind rest g later within ahead (sym e ∙ ap (λ (r : Queue). waiting r S) same ∙ w)
      (in-time S.mark q (length ahead) within time)
      (λ nearer is soon. goes_on nearer behind (taken-from q p later S same ∙ is) (within - 1) (inr soon) (omega arith))))
      (λ differ.
      let soon : 2 * length ahead + 2 ≤ within = tried-first behind S ahead within w (rw differ at turn) time in
      rw differ
      (after-other g (omega arith)
      (goes_on ahead behind (left_alone q p later S differ ∙ w) (within - 1) (inl (next-tried q p differ, omega arith)) (omega arith))))
      (this-or-other p q)

  -- The bound holds along every list of calls.
  pub comes-out : {S T : State} {ms : List QueueMade} → Changes S ms T → (ahead behind : Frames) → waiting q S ≡ ahead ++ (f ∷ behind)
      → (within : ℕ) → InTime S.mark q (length ahead) within → within ≤ length (served ms)
      → ComesOut (served ms) q f (length ahead) within
  unfolding served
  comes-out {S} no_call = λ ahead behind w within time enough. absurd (omega (arith, in-time S.mark q (length ahead) within time))
  comes-out (call put_refused more) = comes-out more
  comes-out (call serve_refused more) = comes-out more
  comes-out (call (found_empty e) more) = λ ahead behind w within time enough. absurd (not-empty f ahead behind (sym w ∙ e q))
  comes-out (call {S = S} (puts p {frame = g}) more) = λ ahead behind w within time enough.
      let still = put-behind q p S g ahead f behind w in
      comes-out more ahead still.0 still.1 within (rw (mark-kept p (waiting p S ++ (g ∷ [])) S) time) enough
  comes-out (call {S = S} {ms = ms} (gives p {later = later} {n = n} {out = out} e turn) more) =
      served-turn S p (take n out) later (served ms) e turn (comes-out more)
