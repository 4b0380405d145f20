-- Copied as it stands, or its columns renumbered by the table, into the part from w on.
use borrow.Author.Rules.{rules}
use mathlib.Core.Path.{◌≡◌}
use Rattle.definitions.specs.Bytes.Encode.{expr_bytes}
use Rattle.definitions.specs.Words.Expression.{Expr}
use Rattle.terms.specs.declared.sides.JoinSide.TheVariants.{None}
use Rattle.plan_writer.specs.Arguments.{written}
use Rattle.plan_writer.proofs.arguments.ArgumentLaws.{kept-room, kept_put}
use Rattle.plan_writer.proofs.arguments.reproject_column_references_for_side.Goals as goal
use Rattle.plan_writer.proofs.arguments.reproject_column_references_for_side.Goals.{In_default, in_default-via-in-Some+else-ne, in_default-via-in_default}

-- What the table or its absence leaves as it is.
as_it_is : (c : In_default) → (t : Expr) → written c.args.indexes c.args.argument t ≡ expr_bytes t
as_it_is c t =
    elim c.in_default.branch [
      | in_default-via-in-Some+else-ne w ↦ (let e : c.args.argument.side ≡ None = search rules in rw (w.in-Some.is, e))
      | in_default-via-in_default w ↦ rw w.in_default.is
    ]

pub copy_at-requires : goal.copy_at-requires
copy_at-requires c =
    kept-room c.args.indexes c.args.src.now c.args.argument (as_it_is (goal.at.copy_at-requires c).In_default) c.requires

pub returns-in_default : goal.returns-in_default
returns-in_default c =
    kept_put c.args.indexes c.args.src.now c.args.argument (as_it_is (goal.at.returns-in_default c).In_default) c.copy_at.ensures
