-- The records of both frames, moved, after that of the And are the records of the merged frame.
use Rattle.std.specs.Prelude.{Ok}
use Prim.Native.Nat.{ℕ, suc, ◌+◌, ◌*◌, ◌-◌, ◌/◌, ◌≤◌, ◌<◌, min, max}
use native.Mathlib.Omega.{arith}
use mathlib.Core.Path.{◌≡◌, refl, sym, ap, ap₂, ◌∙◌}
use mathlib.Core.List.{List, [], ◌∷◌, ◌++◌, map, map-append, append-nil}
use lib.ListN.{length, take, drop, set, length-append, length-set, length-drop, drop_of_length-le}
use lib.Seq.{take-append_seam, take_all, drop-drop, set_split}
use Rattle.definitions.specs.Words.Expression as tree
use Rattle.definitions.specs.Bytes.Encode.{expr_bytes}
use Rattle.definitions.specs.Bytes.Good.{nodes, depth}
use Rattle.definitions.specs.Bytes.NodeTable.{NodeRecord, kind_byte, record_of, nodes_from}
use Rattle.definitions.specs.Bytes.Plans.{plan_of}
use Rattle.definitions.specs.Filter.Merge.{raised, merge_frames}
use Rattle.theorems.proofs.Columns.{map-length}
use Rattle.theorems.proofs.Merged.{merged-nodes}
use Rattle.filter_tree.proofs.NodeBytes.{nodes-by-bytes}
use Rattle.node_table.specs.Records.{node_of, nodes_of, RowHas}
use Rattle.node_table.specs.declared.NodeRecord.{NodeRecord as Lent}
use Rattle.filter_tree.specs.Trees.{Noded, Node, OfNode, Recorded}
use Rattle.filter_tree.proofs.Children.{whole-noded, recorded-within, recorded-whole}
use Rattle.expression.proofs.Puts.{Put, put-chain}
use Rattle.filter_tree.proofs.Rows.{row-has}
use Rattle.frame_reader.specs.declared.frame_bodies.Frame.{Frame}
use Rattle.plan_reader.specs.Plans.{HeldIs}
use Rattle.plan_reader.specs.declared.extraction_bodies.Held.TheVariants as found
use Rattle.call_answers.specs.declared.answers.Loaded.{Loaded}
use Rattle.call_merge.specs.declared.given.Frames.{Frames}
use Rattle.call_merge.specs.Given.{GivenNodes, BothFrames}
use Rattle.call_merge.specs.MergedNodes.{moved, Joinable, joined_nodes, Merged, MergedAt}
use Rattle.call_merge.proofs.MoveLaws.{row-size, row-moved, movable, nodes-stay}

module _ {F G : tree.Frame} {f g : Frame} {n m : ℕ} {after : List ℕ} {r : Loaded} (is : Merged F G f g n m after r) where
  abbrev new : tree.Expr
  new = raised (length F.records) G.expr

  raised-length : length (expr_bytes new) ≡ length (expr_bytes G.expr)
  unfolding raised
  raised-length = map-length (λ index. length F.records + index) G.expr

  both-length : length (expr_bytes (merge_frames F G).expr) ≡ 2 + length (expr_bytes F.expr) + length (expr_bytes G.expr)
  unfolding merge_frames expr_bytes
  both-length = omega (arith, length-append (expr_bytes F.expr) (expr_bytes new), raised-length)

  old-there : r.root + 2 ≡ f.root + (g.root - 1)
  old-there = omega (arith, is.begins, is.roots)

  new-there : r.root + 2 + length (expr_bytes F.expr) ≡ g.root + (n - 1)
  new-there = omega (arith, is.begins, is.roots, is.old_end)

  old-short : r.root + 2 + length (expr_bytes F.expr) ≤ 16384
  old-short = omega (arith, is.ends, is.short, both-length)

  new-short : r.root + 2 + length (expr_bytes F.expr) + length (expr_bytes G.expr) ≤ 16384
  new-short = omega (arith, is.ends, is.short, both-length)

  -- There are at most a third as many nodes as bytes.
  pub node-room : 3 * r.count ≤ n + m
  node-room =
      omega (
        arith,
        is.count,
        is.sized,
        merged-nodes F G,
        nodes-by-bytes _ (merge_frames F G).expr is.stands.in_range,
        is.ends,
        is.size,
      )

  module _ (old new : List Lent) (olds : nodes_of old ≡ nodes_from f.root F.expr) (news : nodes_of new ≡ nodes_from g.root G.expr) where
    pub joinable : {room : ℕ} → r.count ≤ room → Joinable room old new n g r
    joinable enough = record {
      own = (omega (arith, is.ends, is.short, both-length), omega (arith, is.short));
      some = (omega (arith, is.roots), omega (arith, is.old_end, is.roots));
      near = (omega (arith, old-there, old-short, is.roots), omega (arith, new-there, old-short, is.roots));
      held = movable f.root F.expr old olds (g.root - 1) (omega (arith, old-there, old-short));
      given = movable g.root G.expr new news (n - 1) (omega (arith, new-there, new-short));
      all = omega (
        arith,
        is.count,
        enough,
        is.sized,
        row-size f.root F.expr old olds,
        row-size g.root G.expr new news,
      );
    }

    joined : nodes_of (joined_nodes old new n g r) ≡ nodes_from r.root (merge_frames F G).expr
    unfolding merge_frames raised nodes_from record_of kind_byte
    joined =
        let next : ℕ = r.root + 2 + length (expr_bytes F.expr) in
        ap₂ {C = List NodeRecord} (λ (e : ℕ) x. record { kind = 2; start = r.root; end = e } ∷ x) (sym is.ends)
        (map-append node_of (map (moved (g.root - 1)) old) (map (moved (n - 1)) new)
        ∙ ap₂ ◌++◌ (row-moved f.root F.expr old olds (g.root - 1) (r.root + 2) old-there)
        (row-moved g.root G.expr new news (n - 1) next new-there ∙ sym (nodes-stay (λ index. length F.records + index) next G.expr)))

    -- So a row that begins with them has the records of what stands there.
    pub joined_has : (before row : List Lent) → row ≡ joined_nodes old new n g r ++ drop (length (joined_nodes old new n g r)) before
        → RowHas after r.root r.count row
    joined_has before row put =
        let e : tree.Expr = (merge_frames F G).expr in
        let size : r.count ≡ nodes e = omega (arith, is.count, is.sized, merged-nodes F G) in
        let rest : List Lent = drop (length (joined_nodes old new n g r)) before in
        let begins : nodes_of row ≡ nodes_from r.root e ++ nodes_of rest =
        ap nodes_of put ∙ map-append node_of (joined_nodes old new n g r) rest
        ∙ ap (λ (l : List NodeRecord). l ++ nodes_of rest) joined in
        let recorded : Recorded row r.root 0 e =
        ap (take (length (nodes_from r.root e))) begins ∙ take-append_seam (nodes_from r.root e) (nodes_of rest) in
        row-has row is.stands size (omega (arith, size, recorded-within row r.root 0 e recorded)) recorded

-- ---- as both frames were read

-- There is room where there is for a third of the bytes, or for as many nodes as a frame may have.
places : (count bytes room : ℕ) → 3 * count ≤ bytes → count ≤ 1024 → min 1024 (bytes / 3) ≤ room → count ≤ room
places count bytes room third few enough = omega (arith, third, few, enough)

-- The held frame, its nodes in a row, and the new one.
module _ (plan : List ℕ) {frame : List ℕ} (rows : List Lent) {new : List Lent} {n : ℕ} {f g : Frame}
    (held : HeldIs (take n plan) (Ok (found.Frame f)) (plan_of (take n plan)) (Recorded rows)) (fits : n ≤ length plan)
    (given : GivenNodes frame new g) where
  pub held_room : f.nodes ≤ length rows
  held_room = omega (arith, held.1.sized, recorded-within rows f.root 0 held.0.expr held.3)

  held_rows : nodes_of (take f.nodes rows) ≡ nodes_from f.root held.0.expr
  held_rows = recorded-whole rows f.root held.0.expr held.3 held.1.sized

  held_noded : Noded (take f.nodes rows) f.root 0 held.0.expr
  held_noded = whole-noded held_rows

  new_noded : Noded new g.root 0 given.given.frame.expr
  new_noded = whole-noded given.recorded

  pub both-nodes : Node (take f.nodes rows) 0 × Node new 0
  both-nodes = ((f.root, held.0.expr, held_noded), (g.root, given.given.frame.expr, new_noded))

  module _ {deep : ℕ} (is : OfNode (take f.nodes rows) 0 (λ p t. OfNode new 0 (λ q u. deep ≡ suc (max (depth t) (depth u))))) where
    abbrev parts : Frames
    parts = record { old = f; new = g; depth = deep }

    pub both-frames : BothFrames n plan frame parts
    both-frames = record {
      held = record { frame = held.0; fits = fits; stands = held.1; is = held.2 };
      given = given.given;
      deep = is f.root held.0.expr held_noded g.root given.given.frame.expr new_noded;
    }

    module _ {after : List ℕ} {r : Loaded}
        (at : (b : BothFrames n plan frame parts) → MergedAt b.held.frame b.given.frame f g n (length frame) after (Ok r)) where
      is-merged : Merged held.0 given.given.frame f g n (length frame) after r
      unfolding both-frames
      is-merged = at both-frames

      pub both-join : (room : ℕ) → min 1024 ((n + length frame) / 3) ≤ room → Joinable room (take f.nodes rows) new n g r
      both-join room enough =
          joinable is-merged (take f.nodes rows) new held_rows given.recorded
          (places r.count (n + length frame) room (node-room is-merged) is-merged.few enough)

      pub both_have : (before row : List Lent)
          → row ≡ joined_nodes (take f.nodes rows) new n g r ++ drop (length (joined_nodes (take f.nodes rows) new n g r)) before
          → RowHas after r.root r.count row
      both_have = joined_has is-merged (take f.nodes rows) new held_rows given.recorded

-- ---- the row as it is put

module _ {A : Type 0} where
  abbrev pub behind : ℕ → List A → List A
  behind w out = take (length out - w) (drop w out)

  abbrev pub together : ℕ → (out part : List A) → List A
  together w out part = take w out ++ (part ++ drop (length out - w) (drop w out))

  -- What was put at the start of a part that begins at w was put from w on.
  part-put : (y before part : List A) (w r : ℕ) → r ≡ length y → part ≡ y ++ drop r (behind w before)
      → Put w y before (together w before part) (w + r)
  part-put y before part w r size e =
      let all : behind w before ≡ drop w before = take_all (length before - w) (drop w before) (omega (arith, length-drop w before)) in
      let none : drop (length before - w) (drop w before) ≡ [] =
      drop_of_length-le (drop w before) {i = length before - w} (omega (arith, length-drop w before)) in
      record {
        ends = omega (arith, size);
        out =
            ap (λ (l : List A). take w before ++ l)
            (ap₂ ◌++◌
            (e ∙ ap₂ (λ (n : ℕ) (l : List A). y ++ drop n l) size all ∙ ap (λ (l : List A). y ++ l) (drop-drop (length y) w before)) none
            ∙ append-nil _);
      }

  -- The first element, then two parts after it.
  pub parts-put : (b : A) (x y row p q : List A) (k j : ℕ) → k ≡ length x → j ≡ length y → 0 < length row
      → p ≡ x ++ drop k (behind 1 (set row 0 b)) → q ≡ y ++ drop j (behind (1 + k) (together 1 (set row 0 b) p))
      → together (1 + k) (together 1 (set row 0 b) p) q ≡ (b ∷ (x ++ y)) ++ drop (length (b ∷ (x ++ y))) row
  parts-put b x y row p q k j size rest some first second =
      let own : Put 0 (b ∷ []) row (set row 0 b) 1 = record { ends = refl; out = set_split row 0 b some } in
      let both = put-chain (simp length-set (omega (arith, some))) (part-put x (set row 0 b) p 1 k size first)
      (part-put y (together 1 (set row 0 b) p) q (1 + k) j rest second) in
      let all : List A = b ∷ (x ++ y) in
      (put-chain (omega arith) own both).out ∙ ap (λ (n : ℕ). all ++ drop n row) {y = length all} (omega arith)
