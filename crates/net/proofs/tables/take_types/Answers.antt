-- `net::tables::take_types` meets its contract. Assumes nothing.
use Rattle.std.proofs.Common.{refl, ◌≡◌, [], min, Ok, arith}
use Rattle.std.proofs.lemmas.Result.{err_from_is_err_and}
use Rattle.rules.specs.Quantities.{types_room}
use Rattle.rules.specs.Tables.{from, type_entry, tables_of}
use Rattle.checks.specs.declared.Line.TheVariants.{Repeater as TypeLine}
use Rattle.checks.specs.Checks.{place_at}
use Rattle.net.specs.Taking.{line-room}
use Rattle.net.specs.ReadLaws.{holds-nothing}
use Rattle.entries.specs.RowLaws.{type-grown, type-line-is}
use Rattle.net.specs.TableLaws.{through-none, take-refused, take_more, take_beyond, take_all}
use Rattle.net.proofs.tables.take_types.Goals as goal

pub loop-i-init : goal.loop-i-init
unfolding from
loop-i-init c = (record { types = omega arith; rows = omega arith; sites = omega arith }, refl, refl, λ rows due. through-none (tables_of c.args.types.now rows due) [] _ (holds-nothing c.args.types.now rows due))

pub returns-in_err-check_type-clause-passes : goal.returns-in_err-check_type-clause-passes
returns-in_err-check_type-clause-passes c =
    let ts = c.args.types.now in
    let p = err_from_is_err_and c.from_residual.result c.from_residual.ensures.1 in
    rw (p.1, p.2)
    (λ rows due. take-refused (tables_of ts rows due) (type_entry (tables_of ts rows due)) [] c.loop-i.i c.loop-i.n (c.loop-i.invariant.3 rows due) (place_at c.loop-i.n) (Ok (TypeLine c.type_at-t.result)) c.check_type.result refl
    (type-line-is ts rows due c.loop-i.i (place_at c.loop-i.n) c.type_at-t.result c.type_at-t.ensures) c.check_type.ensures types_room c.args.count c.in_err-check_type.field-0.0 (omega arith) c.in_err-check_type.was)

pub loop-i-preserved : goal.loop-i-preserved
loop-i-preserved c =
    let ts = c.args.types.now in
    let t = c.type_at-t.result in
    let m-is = c.passed_with-n.ensures in
    let few = (line-room [] c.loop-i.n (Ok (TypeLine t)) c.check_type.result c.loop-i.invariant.0 c.check_type.ensures c.in_ok-check_type.was).1 in (
      rw m-is few,
      rw m-is c.loop-i.invariant.1,
      rw m-is (omega (arith, c.loop-i.invariant.2)),
      λ rows due. take_more (tables_of ts rows due) (type_entry (tables_of ts rows due)) [] c.loop-i.i c.loop-i.n (c.loop-i.invariant.3 rows due) (place_at c.loop-i.n) (Ok (TypeLine t)) c.check_type.result refl
          (type-line-is ts rows due c.loop-i.i (place_at c.loop-i.n) t c.type_at-t.ensures) c.check_type.ensures c.passed_with-n.result c.in_ok-check_type.was
          (type-grown ts rows due c.loop-i.n c.loop-i.i t c.loop-i.invariant.2 c.type_at-t.ensures (omega arith)) m-is,
    )

pub returns-then-count-gt-TYPES_ROOM-clause-passes : goal.returns-then-count-gt-TYPES_ROOM-clause-passes
returns-then-count-gt-TYPES_ROOM-clause-passes c =
    let ts = c.args.types.now in
    let all : c.loop-i.i ≡ min c.args.count types_room = omega arith in
    λ rows due. take_beyond (tables_of ts rows due) (type_entry (tables_of ts rows due)) [] types_room c.args.count c.loop-i.i c.loop-i.n (c.loop-i.invariant.3 rows due) all c.place_of.result c.place_of.ensures c.if-count-gt-TYPES_ROOM.true

pub returns-clause-passes : goal.returns-clause-passes
returns-clause-passes c =
    let ts = c.args.types.now in
    let all : c.loop-i.i ≡ min c.args.count types_room = omega arith in
    λ rows due. take_all (tables_of ts rows due) (type_entry (tables_of ts rows due)) [] types_room c.args.count c.loop-i.i c.loop-i.n (c.loop-i.invariant.3 rows due) all c.if-count-gt-TYPES_ROOM.false
