-- What a body names is among what collection takes for its uses.
use Rattle.std.specs.Prelude.{◌≡◌, ℕ, zero, suc, List, [], ◌∷◌, ◌++◌, map, flat_map, Option, None, Some, slice_get}
use Rattle.std.specs.List.{Contains}
use Rattle.std.proofs.Common.{◌∙◌, refl, sym, ap, arith, subst}
use Rattle.std.proofs.lemmas.List.{map-append}
use Rattle.std.proofs.lemmas.List.Elements.{Contains-append_right}
use Rattle.mm_terms.specs.declared.ids.DefId.{DefId}
use Rattle.mm_terms.specs.declared.item.Item.{Item}
use Rattle.mm_terms.specs.declared.item.Item.TheVariants.{Fn, Glue, Shim, Static}
use Rattle.mm_terms.specs.declared.tree.Tree.{Tree}
use Rattle.mm_plain.specs.Uses.{candidates_of, body_candidates, end_calls, called, function_of, type_args}
use Rattle.mm_plain.specs.declared.program.Block.{Block}
use Rattle.mm_plain.specs.declared.program.Call.{Call}
use Rattle.mm_plain.specs.declared.program.End.{End}
use Rattle.mm_plain.specs.declared.program.End.TheVariants as end
use Rattle.mm_plain.specs.declared.program.Function.{Function}
use Rattle.mm_plain.specs.declared.program.Operand.{Operand}
use Rattle.mm_plain.specs.declared.program.Operand.TheVariants as operand
use Rattle.mm_plain.specs.declared.program.Program.{Program}
use Rattle.mm_plain.specs.declared.program.Rvalue.{Rvalue}
use Rattle.mm_plain.specs.declared.program.Rvalue.TheVariants as rvalue
use Rattle.mm_plain.specs.declared.program.Statement.{Statement}
use Rattle.mm_plain.specs.declared.program.Statement.TheVariants as statement
use Rattle.mm_objects.specs.declared.objects.ObjUnit.{ObjUnit}
use Rattle.mm_machines.specs.Demand.{body_of}
use Rattle.mm_machines.proofs.Joint.{named_in_operand, named_in_operands, named_in_rvalue, named_in_statement, named_in_call, named_in_end}

none_holds : {X : Type 0} (y : X) → Contains [] y → ⊥
none_holds y has = absurd (omega (arith, has.1))

module _ (p : Program) (items : List Item) (us : List ObjUnit) (x : Item) where
  none_in_operand : (o : Operand) → named_in_operand p items us x o ≡ []
  none_in_operand (operand.Copy place) = refl
  none_in_operand (operand.Move place) = refl
  none_in_operand (operand.Num n) = refl
  none_in_operand (operand.Truth b) = refl

  none_in_operands : (os : List Operand) → named_in_operands p items us x os ≡ []
  none_in_operands [] = refl
  none_in_operands (o ∷ os) = λ i. none_in_operand o i ++ none_in_operands os i

  none_in_rvalue : (r : Rvalue) → named_in_rvalue p items us x r ≡ []
  none_in_rvalue (rvalue.Use o) = none_in_operand o
  none_in_rvalue (rvalue.Not o) = none_in_operand o
  none_in_rvalue (rvalue.Binary op a b) = λ i. none_in_operand a i ++ none_in_operand b i

  pub none_in_statement : (s : Statement) → named_in_statement p items us x s ≡ []
  none_in_statement (statement.Set place r) = none_in_rvalue r
  none_in_statement (statement.Print o) = none_in_operand o

  one_in_call : (c : Call) → named_in_call p items us x c ≡ called (type_args x) c ∷ []
  one_in_call c = λ i. called (type_args x) c ∷ (none_in_operands c.operands i ++ [])

  -- what an end names is what its call resolves to
  names_call : (e : End) (y : Item) → Contains (named_in_end p items us x e) y → (c : Call) × (e ≡ end.Call c) × (y ≡ called (type_args x) c)
  names_call (end.Switch o arms other) y has = absurd (none_holds y (subst (λ ys. Contains ys y) (none_in_operand o) has))
  names_call (end.Call c) y has = (c, refl, only y (called (type_args x) c) (subst (λ ys. Contains ys y) (one_in_call c) has))
    where
      only : (y z : Item) → Contains (z ∷ []) y → y ≡ z
      only y z (zero, lt, e) = sym e
      only y z (suc k, lt, e) = absurd (omega (arith, lt))
  names_call end.Return y has = absurd (none_holds y has)
  names_call end.Unreachable y has = absurd (none_holds y has)
  names_call (end.Goto label) y has = absurd (none_holds y has)

called_among : (args : List Tree) (bs : List Block) (k : ℕ) (b : Block) (c : Call) → slice_get bs k ≡ Some b → b.end ≡ end.Call c → Contains (map (called args) (flat_map (λ block. end_calls block.end) bs)) (called args c)
called_among args [] k b c at is = absurd (cc at)
called_among args (z ∷ zs) zero b c at is =
    let first : z ≡ b = cc at in
    let ends : z.end ≡ end.Call c = ap (λ d. d.end) first ∙ is in
    subst (λ e. Contains (map (called args) (end_calls e ++ flat_map (λ block. end_calls block.end) zs)) (called args c)) (sym ends) (0, omega arith, refl)
called_among args (z ∷ zs) (suc k) b c at is =
    subst (λ ys. Contains ys (called args c)) (sym (map-append (called args) (end_calls z.end) (flat_map (λ block. end_calls block.end) zs)))
    (Contains-append_right (map (called args) (end_calls z.end)) (map (called args) (flat_map (λ block. end_calls block.end) zs)) (called args c) (called_among args zs k b c at is))

in_body : (d : DefId) (args : List Tree) (o : Option Function) (k : ℕ) (b : Block) (c : Call) → slice_get (body_of o) k ≡ Some b → b.end ≡ end.Call c → Contains (body_candidates args o) (called (type_args (Fn d args)) c)
in_body d args None k b c at is = absurd (cc at)
in_body d args (Some f) k b c at is = called_among args f.blocks k b c at is

call_is_candidate : (p : Program) (x : Item) (k : ℕ) (b : Block) (c : Call) → slice_get (body_of (function_of p x)) k ≡ Some b → b.end ≡ end.Call c → Contains (candidates_of p x) (called (type_args x) c)
call_is_candidate p (Fn d args) k b c at is = in_body d args (slice_get p.functions d.0) k b c at is
call_is_candidate p (Glue t) k b c at is = absurd (cc at)
call_is_candidate p (Shim t) k b c at is = absurd (cc at)
call_is_candidate p (Static d) k b c at is = absurd (cc at)

-- what the end of a block of the body names is among the uses
pub named_is_candidate : (p : Program) (items : List Item) (us : List ObjUnit) (x : Item) (k : ℕ) (b : Block) (y : Item) → slice_get (body_of (function_of p x)) k ≡ Some b → Contains (named_in_end p items us x b.end) y → Contains (candidates_of p x) y
named_is_candidate p items us x k b y at has =
    let call = names_call p items us x b.end y has in
    subst (Contains (candidates_of p x)) (sym call.2) (call_is_candidate p x k b call.0 at call.1)

-- a statement names nothing
pub statement_names_none : (p : Program) (items : List Item) (us : List ObjUnit) (x : Item) (s : Statement) (y : Item) → Contains (named_in_statement p items us x s) y → ⊥
statement_names_none p items us x s y has = none_holds y (subst (λ ys. Contains ys y) (none_in_statement p items us x s) has)
