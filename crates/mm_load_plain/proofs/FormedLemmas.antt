-- What is written and built is formed: types have as many types below each head as it takes, and there are neither too few
-- nor too many locals and blocks.
use Rattle.std.proofs.Common.{◌≡◌, ℕ, ◌+◌, ◌≤◌, List, length, map, get_or, true, ◌&&◌, not, Option, None, Some, sym, ◌∙◌, subst, arith}
use Rattle.std.specs.Prelude.{All, ⊤}
use Rattle.std.specs.List.{list_all}
use Rattle.std.specs.Option.{option_map_or}
use Rattle.std.proofs.lemmas.Bool.{and_parts}
use Rattle.std.proofs.lemmas.List.{length-map}
use Rattle.std.proofs.lemmas.List.Elements.{All-map}
use Rattle.std.proofs.lemmas.List.Sums.{AllPass-from_list_all}
use Rattle.std.proofs.lemmas.Option.{same_Some}
use Rattle.mm_terms.specs.Formed.{FitsHead, IsFormed, IsFormed-node}
use Rattle.mm_ast.specs.declared.bodies.Block.{Block}
use Rattle.mm_ast.specs.declared.bodies.Call.{Call}
use Rattle.mm_ast.specs.declared.bodies.Called.{Called}
use Rattle.mm_ast.specs.declared.bodies.Called.TheVariants as calls
use Rattle.mm_ast.specs.declared.bodies.Callee.TheVariants as callees
use Rattle.mm_ast.specs.declared.bodies.End.{End}
use Rattle.mm_ast.specs.declared.bodies.End.TheVariants as ends
use Rattle.mm_ast.specs.declared.items.Function.{Function}
use Rattle.mm_ast.specs.declared.types.Head.{Head}
use Rattle.mm_ast.specs.declared.types.Head.TheVariants as heads
use Rattle.mm_ast.specs.declared.types.Type as written
use Rattle.mm_built.specs.Built.{built_head, built_type, built_types, built_place, built_callee, built_called, built_operands, built_call, built_end, built_statement, built_block, built_body, built_bound, built_signature, built_function}
use Rattle.mm_load_plain.specs.Meaning.{head_in, type_of}
use Rattle.mm_load_plain.specs.Names.{Names}
use Rattle.mm_ast.specs.Written.{Takes, IsWrittenType, IsWrittenResult, IsWrittenCalled, IsWrittenEnd, IsWrittenBlock, IsWrittenFunction}
use Rattle.mm_built.proofs.BuiltLemmas.{built_type_parts, built_types-each}
use Rattle.mm_definitions.specs.Trees.{head_of, children_of}
use Rattle.mm_load_plain.proofs.TypeViews.{type_ind, written_type-head, written_type-children}
use Rattle.mm_load_plain.proofs.WrittenLemmas.{type_of-parts}

-- ---- types

-- whatever its parameters are, it means a formed type
abbrev pub IsFormedType : written.Type → Type 0
IsFormedType t = (scope : Names) → IsFormed (type_of scope t)

-- whatever parameter it names, a head that is built takes as many children as it takes where it is written
takes : (scope : Names) (head : Head) (n : ℕ) → built_head head ≡ true → Takes head n → FitsHead (head_in scope head) n
takes scope (heads.Param name) n built fits = fits
takes scope heads.U64 n built fits = fits
takes scope heads.Bool n built fits = fits
takes scope heads.Tuple n built fits = fits
takes scope heads.Ref n built fits = fits
takes scope heads.Boxed n built fits = fits
takes scope _ n built fits = cc

of_parts : (t : written.Type) → built_head (head_of t) ≡ true → Takes (head_of t) (length (children_of t)) → All IsFormedType (children_of t) → IsFormedType t
of_parts t built fits below scope =
    subst IsFormed (sym (type_of-parts scope t))
    (IsFormed-node (head_in scope (head_of t)) (map (type_of scope) (children_of t))
    (subst (FitsHead (head_in scope (head_of t))) (sym (length-map (children_of t) (type_of scope))) (takes scope (head_of t) (length (children_of t)) built fits))
    (All-map IsFormed (type_of scope) (children_of t) (λ k d within. below k d within scope)))

abbrev WouldBeFormed : written.Type → Type 0
WouldBeFormed t = built_type t ≡ true → IsWrittenType t → IsFormedType t

formed_above : (t : written.Type) → All WouldBeFormed (children_of t) → WouldBeFormed t
formed_above t each built is =
    let parts = and_parts (built_head (head_of t)) (list_all built_type (children_of t)) (sym (built_type_parts t) ∙ built) in
    let below = AllPass-from_list_all built_type (children_of t) parts.1 in
    let written = written_type-children t is in
    of_parts t parts.0 (written_type-head t is) (λ k d within. each k d within (below k d within) (written k d within))

formed_type : (t : written.Type) → WouldBeFormed t
formed_type = type_ind WouldBeFormed formed_above

formed_types : (types : List written.Type) → built_types types ≡ true → All IsWrittenType types → All IsFormedType types
formed_types types built are =
    let each = built_types-each types built in
    λ k d within. formed_type (get_or types k d) (each k d within) (are k d within)

formed_result : (result : Option written.Type) → option_map_or built_type result true ≡ true → IsWrittenResult result → (t : written.Type) → result ≡ Some t → IsFormedType t
formed_result None built is t same = cc
formed_result (Some u) built is t same = subst IsFormedType (same_Some u t same) (formed_type u built is)

-- ---- bodies

-- a function is called by its path, and its type arguments are formed
abbrev pub IsFormedCalled : Called → Type 0
IsFormedCalled (calls.Callee (callees.Direct named)) = All IsFormedType named.args
IsFormedCalled _ = ⊥

abbrev pub IsFormedEnd : End → Type 0
IsFormedEnd (ends.Call call) = IsFormedCalled call.called
IsFormedEnd _ = ⊤

abbrev pub IsFormedBlock : Block → Type 0
IsFormedBlock block = IsFormedEnd block.end

-- what is so of a function that is written and built
pub record IsFormedFunction (f : Function) : Type 0 where
  pub params : All IsFormedType f.signature.params
  pub result : (t : written.Type) → f.signature.result ≡ Some t → IsFormedType t
  pub lets : All IsFormedType f.body.lets
  pub few_locals : 1 + (length f.signature.params + length f.body.lets) ≤ 65536
  pub some_block : 1 ≤ length f.body.blocks
  pub few_blocks : length f.body.blocks ≤ 65536
  pub blocks : All IsFormedBlock f.body.blocks

formed_called : (called : Called) → built_called called ≡ true → IsWrittenCalled called → IsFormedCalled called
unfolding built_called built_callee
formed_called (calls.Callee (callees.Direct named)) built is = formed_types named.args built is
formed_called (calls.Callee (callees.Method method)) built is = cc
formed_called (calls.Callee (callees.Call type)) built is = cc
formed_called (calls.Pointer operand) built is = cc

built_called-of : (call : Call) → built_call call ≡ true → built_called call.called ≡ true
unfolding built_call
built_called-of call built =
    let parts = and_parts (built_place call.place && built_called call.called) (built_operands call.operands) built in
    (and_parts (built_place call.place) (built_called call.called) parts.0).1

formed_end : (end : End) → built_end end ≡ true → IsWrittenEnd end → IsFormedEnd end
unfolding built_end
formed_end ends.Return built is = tt
formed_end ends.Unreachable built is = tt
formed_end (ends.Goto label) built is = tt
formed_end (ends.Switch switch) built is = tt
formed_end (ends.Call call) built is = formed_called call.called (built_called-of call built) is
formed_end (ends.Drop place label) built is = tt

formed_block : (block : Block) → built_block block ≡ true → IsWrittenBlock block → IsFormedBlock block
unfolding built_block
formed_block block built is = formed_end block.end (and_parts (list_all built_statement block.statements) (built_end block.end) built).1 is

pub formed_function : (f : Function) → built_function f ≡ true → IsWrittenFunction f → IsFormedFunction f
unfolding built_function built_signature built_body
formed_function f built is =
    let bounds = list_all (λ bound. built_bound bound.form) f.bounds in
    let c = and_parts (not f.is_inline && bounds && built_signature f.signature) (built_body f.body) built in
    let b = and_parts (not f.is_inline && bounds) (built_signature f.signature) c.0 in
    let signature = and_parts (built_types f.signature.params) (option_map_or built_type f.signature.result true) b.1 in
    let body = and_parts (built_types f.body.lets) (list_all built_block f.body.blocks) c.1 in
    let blocks = AllPass-from_list_all built_block f.body.blocks body.1 in
    let few = is.few_locals in
    record {
      params = formed_types f.signature.params signature.0 is.params;
      result = formed_result f.signature.result signature.1 is.result;
      lets = formed_types f.body.lets body.0 is.lets;
      few_locals = omega (arith, few);
      some_block = is.some_block;
      few_blocks = is.few_blocks;
      blocks = λ k d within. formed_block (get_or f.body.blocks k d) (blocks k d within) (is.blocks k d within);
    }
