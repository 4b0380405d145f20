-- The fields of a record that are stored one after the other are a node's kind and start, and then its end.
use Prim.Native.Nat.{ℕ, ◌<◌}
use mathlib.Core.Path.{◌≡◌, refl, sym, ap, ◌∙◌}
use mathlib.Core.List.{List}
use lib.ListN.{length, get_or, set, length-set}
use lib.Seq.{get_or-set_same, set-set}
use Rattle.node_table.specs.declared.NodeRecord.{NodeRecord as Lent}
use Rattle.node_table.specs.Records.{blank}
use Rattle.node_reader.specs.Visitors.{OpenedAt, ClosedAt}
use Rattle.node_reader.specs.declared.visitors.Fill.{Fill}

pub leaf-put : (v : Fill) (i kind at end : ℕ) → i < length v.row.now
    → (u : Fill) × ((u.row.ghost_name ≡ v.row.ghost_name) × OpenedAt v.row.now i kind at u.row.now)
    × ((v.row.ghost_name ≡ u.row.ghost_name)
    × ClosedAt u.row.now i end (set v.row.now i (record { kind = kind; start = at; end = end })))
leaf-put v i kind at end h =
    let row : List Lent = v.row.now in
    let x : Lent = record (get_or row i blank) { kind = kind; start = at } in
    let y : Lent = record { kind = kind; start = at; end = end } in
    let same : get_or (set row i x) i blank ≡ x = get_or-set_same row i x blank h in (
      record v { row = record v.row { now = set row i x } },
      (refl, (length-set row i x, λ l. refl)),
      (
        refl,
        (
          length-set row i y ∙ sym (length-set row i x),
          λ l.
              sym (set-set row i x y)
              ∙ sym (ap (λ (r : Lent). set (set row i x) i (record r { end = end })) same),
        ),
      ),
    )
