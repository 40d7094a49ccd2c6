use Rattle.std.proofs.Common.{◌≡◌, ◌+◌, ◌-◌, ◌<◌, ◌≤◌, length, sum, map, take, get_or, sym, ◌∙◌, ap, subst, arith}
use Rattle.std.proofs.lemmas.List.{take_all}
use Rattle.std.specs.Option.{SomeIff}
use Rattle.mm_load_plain.specs.Rules.{type_length}
use Rattle.mm_definitions.specs.Trees.{children_of}
use Rattle.mm_load_plain.proofs.WrittenLemmas.{type_length-parts, sum-take-le}
use Rattle.mm_load_plain.proofs.long_type.+room_after.Goals as goal

pub returns-in_err-room : goal.returns-in_err-room
returns-in_err-room t c =
    let none = c.in_err-room.ensures in
    let long = type_length-parts c.args.ty.now in
    subst (λ o. SomeIff o (type_length c.args.ty.now ≤ c.args.room) (c.args.room - type_length c.args.ty.now)) (sym c.from_residual.ensures) (λ fits. none (omega arith))

pub returns-in_err-room-2 : goal.returns-in_err-room-2
returns-in_err-room-2 t c =
    let none = c.in_err-room-2.ensures in
    let ty = c.args.ty.now in
    let i = c.loop-child.child-index in
    let child = c.child-item.result in
    let within : i < length (children_of ty) = omega (arith, ap length c.as_slice-child-items.ensures) in
    let at : child ≡ get_or (children_of ty) i child = c.child-item.is ∙ ap (λ l. get_or l i child) c.as_slice-child-items.ensures in
    let left : c.loop-child.room + sum (map type_length (take i (children_of ty))) + 1 ≡ c.args.room = c.loop-child.invariant in
    let more = sum-take-le type_length (children_of ty) i child within at in
    let long = type_length-parts ty in
    subst (λ o. SomeIff o (type_length ty ≤ c.args.room) (c.args.room - type_length ty)) (sym c.from_residual-in_err-room-2.ensures) (λ fits. none (omega arith))

pub returns : goal.returns
returns t c =
    let ty = c.args.ty.now in
    let i = c.loop-child.child-index in
    let left : c.loop-child.room + sum (map type_length (take i (children_of ty))) + 1 ≡ c.args.room = c.loop-child.invariant in
    let all = ap (λ l. sum (map type_length l)) (take_all i (children_of ty) (omega (arith, ap length c.as_slice-child-items.ensures))) in
    let long = type_length-parts ty in
    (omega arith, omega arith)
