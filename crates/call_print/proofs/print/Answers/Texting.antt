-- What a print is, once the frame's answer, the text's length and what was written are known.
use Rattle.std.specs.Prelude.{if◌then◌else◌, IsTrue, ◌↔◌}
use Prim.Native.Nat.{ℕ, ◌≤◌}
use native.Mathlib.Omega.{arith}
use mathlib.Core.Path.{◌≡◌, sym, ap, ap₂, ◌∙◌}
use mathlib.Core.Bool.{Bool, true, false}
use mathlib.Core.List.{List, ◌++◌}
use lib.ListN.{length, drop, drop_of_length-le}
use lib.Dec.{leb}
use borrow.Author.Tests.{le-leb, lt-leb}
use Rattle.definitions.specs.Words.Basics.{Result, ok, refused}
use Rattle.definitions.specs.Words.Expression.{Frame}
use Rattle.definitions.specs.Bytes.Encode.{expr_bytes, exprs_bytes}
use Rattle.definitions.specs.Bytes.Plans.{frame_of}
use Rattle.definitions.specs.Calls.Base.{written_over}
use Rattle.definitions.specs.Bytes.Printed.{printed}
use Rattle.definitions.specs.Calls.Print.{text_of, finish_print, print}
use Rattle.definitions.specs.Bytes.Good.{AllBytes}
use Rattle.theorems.proofs.InverseFrame.{frame_back}
use Rattle.theorems.proofs.TextLength.{text-short}
use Rattle.frame_reader.specs.Frames.{FrameAt}
use Rattle.frame_reader.specs.declared.frame_bodies.Frame as places
use Rattle.frame_reader.proofs.Standing.{expr-stands}
use Rattle.byte_writer.specs.Writing.{Room}
use Rattle.byte_writer.proofs.Written.{to_start}
use Rattle.printing.specs.Marks.{PhysicalAt}
use Rattle.printing.specs.Texts.{TextAt, TextThere, OfText, NodePrinted}
use Rattle.printing.specs.declared.texts.Printed.{Printed}

module _ (frame before : List ℕ) where
  pub print-refuses : (number : ℕ) → frame_of frame ≡ refused number
      → print frame before ≡ record { answer = refused number; buffer = before }
  unfolding print text_of finish_print
  print-refuses number e = ap (λ (r : Result Frame). finish_print before (text_of (length before) r)) e

  module _ (F : Frame) (is : frame_of frame ≡ ok F) (f : places.Frame) (at : FrameAt frame f (length frame) F) where
    -- Its expression stands up to the end.
    text_at : TextAt frame f.root F.expr
    unfolding exprs_bytes
    text_at = record {
      bound = length F.records;
      row = record {
        bytes =
            at.expr.bytes.bytes
            ∙ ap (λ (l : List ℕ). expr_bytes F.expr ++ l) (drop_of_length-le frame {i = length frame} (omega arith));
        in_range = (at.expr.readable.in_range, tt);
        within = omega (arith, at.expr.bytes.ends, at.expr.bytes.within);
      };
    }

    node_at : PhysicalAt frame f.root F.expr
    node_at = record { bound = length F.records; stands = expr-stands at.expr }

    text-few : AllBytes frame → length (printed F.expr) ≤ 26620
    text-few bytes = (text-short F (frame_back frame F bytes is).1).1

    pub text-there : AllBytes frame → TextThere frame f.root
    text-there bytes = (F.expr, text_at, text-few bytes)

    by-room : (b : Bool) → leb (length (printed F.expr)) (length before) ≡ b
        → print frame before ≡ finish_print before (if b then ok (printed F.expr) else refused 15)
    unfolding print text_of
    by-room b t =
        ap (λ (r : Result Frame). finish_print before (text_of (length before) r)) is
        ∙ ap (λ (x : Bool). finish_print before (if x then ok (printed F.expr) else refused 15)) t

    module _ (bytes : AllBytes frame) (b : Bool)
        (fits : OfText frame f.root (λ t. length (printed t) ≤ 26620 → IsTrue b ↔ (length (printed t) ≤ length before))) where
      room-is : IsTrue b ↔ (length (printed F.expr) ≤ length before)
      room-is = fits F.expr text_at (text-few bytes)

      pub print-short : b ≡ false → print frame before ≡ record { answer = refused 15; buffer = before }
      unfolding finish_print
      print-short short =
          let no : length (printed F.expr) ≤ length before → ⊥ = λ le. let both : b ≡ true = room-is.1 le in cc in
          by-room false (lt-leb (length (printed F.expr)) (length before) (omega (arith, no)))

      pub text-room : b ≡ true → Room (PhysicalAt frame f.root) printed 0 before
      text-room room = record { it = F.expr; stands = node_at; room = omega (arith, room-is.0 room) }

      pub print-writes : b ≡ true → (after : List ℕ) (r : Printed) → NodePrinted frame f.root 0 before after r
          → print frame before ≡ record { answer = ok r.wrote; buffer = after }
      unfolding finish_print written_over
      print-writes room after r put =
          let wrote = to_start (put F.expr node_at).out in
          let text : after ≡ printed F.expr ++ drop (length (printed F.expr)) before = wrote.1 in
          by-room true (le-leb (length (printed F.expr)) (length before) (room-is.0 room))
          ∙ ap₂ (λ (k : ℕ) (x : List ℕ). record { answer = ok k; buffer = x }) (sym wrote.0) (sym text)
