-- What a tree that keeps the rules means, part by part: all that is named is there, and each call fits its callee.
use Rattle.std.proofs.Common.{◌≡◌, ℕ, suc, ◌+◌, ◌<◌, List, [], ◌∷◌, ◌++◌, length, map, get_or, true, false, cond, Bool, Option, None, Some, refl, sym, ap, ◌∙◌, subst, ⊎_elim, arith, length-append}
use Rattle.std.specs.Prelude.{All, slice_get, unwrap_or, is_none, nat_lt, nat_eq, not}
use Rattle.std.specs.List.{flat_map}
use Rattle.std.specs.Option.{option_map, option_map_or, option_and_then}
use Rattle.std.specs.Str.{bytes_eq}
use Rattle.std.proofs.lemmas.Bool.{eqb-true, ltb-false, ltb-true, and_parts}
use Rattle.std.proofs.lemmas.List.{length-map}
use Rattle.std.proofs.lemmas.List.Elements.{All-nil, All-cons, All-append, All-map}
use Rattle.std.proofs.lemmas.Option.{slice_get-map, slice_get_cases}
use Rattle.std.proofs.lemmas.List.Folds.{flat_map-map}
use Rattle.mm_terms.specs.declared.ty_head.TyHead.TheVariants.{Tuple}
use Rattle.mm_terms.specs.Tree.{node}
use Rattle.mm_terms.specs.Formed.{IsFormed-node}
use Rattle.mm_terms.specs.Substitution.{param_of, ParamsBelow, ParamsBelow-node}
use Rattle.mm_plain.specs.declared.program.Program.{Program}
use Rattle.mm_plain.specs.declared.program.Function as made
use Rattle.mm_plain.specs.declared.program.Call as made_call
use Rattle.mm_plain.specs.WellFormed.{NamesNone, NamesNoDefinition, IsTypeUnder, IsPlaceOf, IsLabelOf, IsOperandOf, IsRvalueOf, IsStatementOf, IsCallIn, IsEndIn, IsBlockIn, IsFunctionIn, HasMain}
use Rattle.mm_plain.proofs.PlainLemmas.{plain-node}
use Rattle.mm_ast.specs.declared.items.Crate.{Crate}
use Rattle.mm_ast.specs.declared.items.Function.{Function}
use Rattle.mm_ast.specs.declared.types.Type as written
use Rattle.mm_ast.specs.declared.types.Head.{Head}
use Rattle.mm_ast.specs.declared.types.Head.TheVariants as heads
use Rattle.mm_ast.specs.declared.bodies.Block.{Block}
use Rattle.mm_ast.specs.declared.bodies.Statement.{Statement}
use Rattle.mm_ast.specs.declared.bodies.Statement.TheVariants as statements
use Rattle.mm_ast.specs.declared.bodies.Rvalue.{Rvalue}
use Rattle.mm_ast.specs.declared.bodies.Rvalue.TheVariants as rvalues
use Rattle.mm_ast.specs.declared.bodies.Operand.{Operand}
use Rattle.mm_ast.specs.declared.bodies.Operand.TheVariants as operands
use Rattle.mm_ast.specs.declared.bodies.Called.{Called}
use Rattle.mm_ast.specs.declared.bodies.Called.TheVariants as calls
use Rattle.mm_ast.specs.declared.bodies.Callee.TheVariants as callees
use Rattle.mm_ast.specs.declared.bodies.Place.{Place}
use Rattle.mm_ast.specs.declared.names.PathWithArgs.{PathWithArgs}
use Rattle.mm_ast.specs.declared.bodies.Label.{Label}
use Rattle.mm_ast.specs.declared.bodies.Arm.{Arm}
use Rattle.mm_ast.specs.declared.bodies.Switch.{Switch}
use Rattle.mm_ast.specs.declared.bodies.End.{End}
use Rattle.mm_ast.specs.declared.bodies.End.TheVariants as ends
use Rattle.mm_ast.specs.declared.bodies.Call.{Call}
use Rattle.mm_load_plain.specs.Meaning.{index_in, head_in, type_of, types_of, result_of, place_of, operand_of, rvalue_of, statement_of, arm_of, def_id, callee_in, args_in, call_of, end_of, block_of, locals_of, function_in, function_of}
use Rattle.mm_load_plain.specs.Names.{Names, index_of, path_named, main_path, names_in}
use Rattle.mm_load_plain.specs.Rules.{line_if, of_call, of_named, unknown_head, unknown_in_type, unknown_in_types, unknown_place, unknown_label, unknown_in_operand, unknown_in_operands, unknown_in_rvalue, unknown_in_statement, unknown_in_statements, unknown_in_arms, unknown_in_switch, unknown_named, unknown_in_call, unknown_in_end, unknown_in_block, unknown_in_blocks, unknown_in_scope, function_at, fits, misfit_named, misfit_call, misfit_block, misfits_in_function, is_bare, bad_main}
use Rattle.mm_load_plain.specs.WrittenItem.{Defined, paths_to}
use Rattle.mm_load_plain.proofs.TypeViews.{written_node, type_fold-node, written_ind}
use Rattle.mm_load_plain.specs.WrittenPlace.{local_of, place_line}
use Rattle.mm_load_plain.proofs.FormedLemmas.{IsFormedType, IsFormedCalled, IsFormedEnd, IsFormedFunction}
use Rattle.mm_load_plain.proofs.KeptLemmas.{none_both, none_each, none_if, none_unless, some_of}

-- ---- how names resolve

suc_of : (o : Option ℕ) (k : ℕ) → option_map suc o ≡ Some k → (j : ℕ) × (o ≡ Some j) × (k ≡ suc j)
suc_of None k h = cc
suc_of (Some j) k h = (j, refl, cc)

first_low : (here : Bool) (later : Option ℕ) (n k : ℕ) → ((j : ℕ) → later ≡ Some j → j < n) → cond here (Some 0) (option_map suc later) ≡ Some k → k < n + 1
first_low true later n k low h = let is : 0 ≡ k = cc in omega (arith, is)
first_low false later n k low h = let at = suc_of later k h in omega (arith, at.2, low at.0 at.1)

-- a name resolves to an index of the list
pub index_low : (names : List (List ℕ)) (name : List ℕ) (k : ℕ) → index_of names name ≡ Some k → k < length names
index_low [] name k h = cc
index_low (n ∷ ns) name k h =
    let low = first_low (bytes_eq name n) (index_of ns name) (length ns) k (index_low ns name) h in
    omega (arith, low)

pub found : {X : Type 0} (xs : List X) (i : ℕ) → i < length xs → (x : X) × (slice_get xs i ≡ Some x)
found xs i within = ⊎_elim (λ here. (here.0, here.2)) (λ past. absurd (omega (arith, within, past.0))) (slice_get_cases xs i).1

-- ---- types

module _ (scope : Names) (n : ℕ) (low : (name : List ℕ) (k : ℕ) → scope name ≡ Some k → k < n) where
  head_low : (line : ℕ) (head : Head) → unknown_head scope line head ≡ [] → All (λ i. i < n) (param_of (head_in scope head))
  head_low line (heads.Param name) none =
      let is = some_of (scope name) line none in
      All-cons (λ i. i < n) (index_in scope name) [] (subst (λ o. unwrap_or o 0 < n) (sym is.1) (low name is.0 is.1)) (All-nil (λ i. i < n))
  head_low line heads.U64 none = All-nil (λ i. i < n)
  head_low line heads.Bool none = All-nil (λ i. i < n)
  head_low line heads.Ref none = All-nil (λ i. i < n)
  head_low line heads.Boxed none = All-nil (λ i. i < n)
  head_low line _ none = All-nil (λ i. i < n)

  head_plain : (head : Head) → NamesNone (head_in scope head)
  head_plain (heads.Param name) = tt
  head_plain heads.U64 = tt
  head_plain heads.Bool = tt
  head_plain heads.Ref = tt
  head_plain heads.Boxed = tt
  head_plain _ = tt

  abbrev Known : written.Type → Type 0
  Known t = unknown_in_type scope t ≡ [] → ParamsBelow n (type_of scope t) × NamesNoDefinition (type_of scope t)

  known_node : (line : ℕ) (head : Head) (children : List written.Type) → All Known children → Known (written_node line head children)
  unfolding unknown_in_type type_of
  known_node line head children each none =
      let lines = type_fold-node (λ line head below. unknown_head scope line head ++ flat_map (λ lines. lines) below) line head children in
      let parts = none_both (unknown_head scope line head) (flat_map (λ lines. lines) (map (unknown_in_type scope) children)) (sym lines ∙ none) in
      let below = none_each (unknown_in_type scope) children (sym (flat_map-map (λ lines. lines) (unknown_in_type scope) children) ∙ parts.1) in
      let is : type_of scope (written_node line head children) ≡ node (head_in scope head) (map (type_of scope) children) = type_fold-node (λ line head children. node (head_in scope head) children) line head children in (
        subst (ParamsBelow n) (sym is)
            (ParamsBelow-node n (head_in scope head) (map (type_of scope) children) (head_low line head parts.0)
            (All-map (ParamsBelow n) (type_of scope) children (λ k d within. (each k d within (below k d within)).0))),
        subst NamesNoDefinition (sym is)
            (plain-node (head_in scope head) (map (type_of scope) children) (head_plain head)
            (All-map NamesNoDefinition (type_of scope) children (λ k d within. (each k d within (below k d within)).1))),
      )

  type_under : (t : written.Type) → IsFormedType t → unknown_in_type scope t ≡ [] → IsTypeUnder n (type_of scope t)
  type_under t formed none =
      let known = written_ind Known known_node t none in
      record { formed = formed scope; params = known.0; plain = known.1 }

  types_under : (types : List written.Type) → All IsFormedType types → unknown_in_types scope types ≡ [] → All (IsTypeUnder n) (types_of scope types)
  unfolding unknown_in_types types_of
  types_under types formed none =
      let each = none_each (unknown_in_type scope) types none in
      All-map (IsTypeUnder n) (type_of scope) types (λ k d within. type_under (get_or types k d) (formed k d within) (each k d within))

  unit_under : IsTypeUnder n (node Tuple [])
  unit_under = record {
    formed = IsFormed-node Tuple [] (λ none. omega (arith, none)) (λ k d within. absurd (omega (arith, within)));
    params = ParamsBelow-node n Tuple [] (All-nil (λ i. i < n)) (All-nil (ParamsBelow n));
    plain = plain-node Tuple [] tt (All-nil NamesNoDefinition);
  }

  result_under : (result : Option written.Type) → ((t : written.Type) → result ≡ Some t → IsFormedType t) → option_map_or (unknown_in_type scope) result [] ≡ [] → IsTypeUnder n (result_of scope result)
  unfolding result_of
  result_under None formed none = unit_under
  result_under (Some t) formed none = type_under t (formed t refl) none

-- ---- the parts of a body. The function that is made has the locals and the blocks that are written

module _ (w : Function) (f : made.Function) (locals : length f.locals ≡ 1 + (length w.signature.params + length w.body.lets)) (blocks : length f.blocks ≡ length w.body.blocks) where
  known_place : (place : Place) → unknown_place w place ≡ [] → IsPlaceOf f (place_of place)
  known_place place none =
      let low = ltb-false (length w.signature.params + length w.body.lets) (local_of place) (none_if (nat_lt (length w.signature.params + length w.body.lets) (local_of place)) (place_line place) none) in
      omega (arith, low, locals)

  known_label : (label : Label) → unknown_label w label ≡ [] → IsLabelOf f label.number
  known_label label none =
      let low = ltb-true label.number (length w.body.blocks) (none_unless (nat_lt label.number (length w.body.blocks)) label.line none) in
      omega (arith, low, blocks)

  known_operand : (only : Operand) → unknown_in_operand w only ≡ [] → IsOperandOf f (operand_of only)
  unfolding unknown_in_operand operand_of
  known_operand (operands.Copy place) none = known_place place none
  known_operand (operands.Move place) none = known_place place none
  known_operand (operands.Number n) none = tt
  known_operand (operands.Bool b) none = tt
  known_operand _ none = tt

  known_operands : (some : List Operand) → unknown_in_operands w some ≡ [] → All (IsOperandOf f) (map operand_of some)
  unfolding unknown_in_operands
  known_operands some none =
      let each = none_each (unknown_in_operand w) some none in
      All-map (IsOperandOf f) operand_of some (λ k d within. known_operand (get_or some k d) (each k d within))

  known_rvalue : (value : Rvalue) → unknown_in_rvalue w value ≡ [] → IsRvalueOf f (rvalue_of value)
  unfolding unknown_in_rvalue rvalue_of
  known_rvalue (rvalues.Use only) none = known_operand only none
  known_rvalue (rvalues.Not only) none = known_operand only none
  known_rvalue (rvalues.Binary op left right) none =
      let parts = none_both (unknown_in_operand w left) (unknown_in_operand w right) none in
      (known_operand left parts.0, known_operand right parts.1)
  known_rvalue _ none = tt

  known_statement : (one : Statement) → unknown_in_statement w one ≡ [] → IsStatementOf f (statement_of one)
  unfolding unknown_in_statement statement_of
  known_statement (statements.Set place value) none =
      let parts = none_both (unknown_place w place) (unknown_in_rvalue w value) none in
      (known_place place parts.0, known_rvalue value parts.1)
  known_statement (statements.Print only) none = known_operand only none

  known_statements : (some : List Statement) → unknown_in_statements w some ≡ [] → All (IsStatementOf f) (map statement_of some)
  unfolding unknown_in_statements
  known_statements some none =
      let each = none_each (unknown_in_statement w) some none in
      All-map (IsStatementOf f) statement_of some (λ k d within. known_statement (get_or some k d) (each k d within))

  known_arms : (arms : List Arm) → unknown_in_arms w arms ≡ [] → All (λ arm. IsLabelOf f arm.label) (map arm_of arms)
  unfolding unknown_in_arms arm_of
  known_arms arms none =
      let each = none_each (λ arm. unknown_label w arm.label) arms none in
      All-map (λ arm. IsLabelOf f arm.label) arm_of arms (λ k d within. known_label (get_or arms k d).label (each k d within))

  -- the calls resolve to functions of the program
  module _ (p : Program) (functions : List Defined) (are : p.functions ≡ map (function_of (paths_to functions)) functions) where
    abbrev paths : Names
    paths = paths_to functions

    named_at : (k : ℕ) (d : Defined) → slice_get functions k ≡ Some d → slice_get p.functions k ≡ Some (function_of paths d)
    named_at k d at =
        ap (λ fs. slice_get fs k) are ∙ slice_get-map (function_of paths) functions k ∙ ap (option_map (function_of paths)) at

    -- how a path resolves
    resolved : (path : List ℕ) (k : ℕ) → paths path ≡ Some k → (d : Defined) × (slice_get functions k ≡ Some d)
    resolved path k look_up =
        let low = index_low (map (λ d. d.path) functions) path k look_up in
        found functions k (omega (arith, low, length-map functions (λ (d : Defined). d.path)))

    fitting : (named : PathWithArgs) (args : List Operand) (k : ℕ) (d : Defined) → paths (path_named named.path) ≡ Some k → slice_get functions k ≡ Some d → misfit_named paths functions args named ≡ [] → fits named args d.function ≡ true
    unfolding misfit_named
    fitting named args k d look_up at none =
        let is : function_at paths functions (path_named named.path) ≡ Some d = ap (option_and_then (slice_get functions)) look_up ∙ at in
        none_unless (fits named args d.function) named.path.line
        (subst (λ o. option_map_or (λ callee. line_if (not (fits named args callee.function)) named.path.line) o [] ≡ []) is none)

    module _ (scope : Names) (low : (name : List ℕ) (k : ℕ) → scope name ≡ Some k → k < f.type_params) where
      -- a function that is named, with these operands
      known_named : (named : PathWithArgs) (args : List Operand) (made : made_call.Call) → unknown_named paths scope named ≡ [] → misfit_named paths functions args named ≡ [] → All IsFormedType named.args → made.callee ≡ def_id (index_in paths (path_named named.path)) → made.args ≡ types_of scope named.args → made.operands ≡ map operand_of args → All (IsOperandOf f) made.operands → IsPlaceOf f made.place → IsLabelOf f made.target → IsCallIn p f made
      unfolding unknown_named function_in types_of
      known_named named args made none fit formed callee_is args_are operands_are operands place target =
          let parts = none_both (line_if (is_none (paths (path_named named.path))) named.path.line) (unknown_in_types scope named.args) none in
          let look_up = some_of (paths (path_named named.path)) named.path.line parts.0 in
          let callee = resolved (path_named named.path) look_up.0 look_up.1 in
          let both = and_parts (nat_eq (length named.args) (length callee.0.function.type_params)) (nat_eq (length args) (length callee.0.function.signature.params)) (fitting named args look_up.0 callee.0 look_up.1 callee.1 fit) in
          record {
            callee = function_of paths callee.0;
            named = ap (λ id. slice_get p.functions id.0) callee_is ∙ ap (λ o. slice_get p.functions (unwrap_or o 0)) look_up.1 ∙ named_at look_up.0 callee.0 callee.1;
            type_args = ap length args_are ∙ length-map named.args (type_of scope) ∙ eqb-true (length named.args) (length callee.0.function.type_params) both.0;
            args = ap length operands_are ∙ length-map args operand_of ∙ eqb-true (length args) (length callee.0.function.signature.params) both.1;
            types = subst (All (IsTypeUnder f.type_params)) (sym args_are) (types_under scope f.type_params low named.args formed parts.1);
            operands = operands;
            place = place;
            target = target;
          }

      known_called : (call : Call) (called : Called) → call.called ≡ called → unknown_in_call paths scope w call ≡ [] → misfit_call paths functions call ≡ [] → IsFormedCalled called → IsCallIn p f (call_of paths scope call)
      unfolding unknown_in_call misfit_call call_of
      known_called call (calls.Callee (callees.Direct named)) is none fit formed =
          let c = none_both (unknown_place w call.place ++ of_named (unknown_named paths scope) call.called ++ unknown_in_operands w call.operands) (unknown_label w call.target) none in
          let b = none_both (unknown_place w call.place ++ of_named (unknown_named paths scope) call.called) (unknown_in_operands w call.operands) c.0 in
          let a = none_both (unknown_place w call.place) (of_named (unknown_named paths scope) call.called) b.0 in
          known_named named call.operands (call_of paths scope call)
          (subst (λ called. of_named (unknown_named paths scope) called ≡ []) is a.1)
          (subst (λ called. of_named (misfit_named paths functions call.operands) called ≡ []) is fit)
          formed
          (ap (λ called. def_id (callee_in paths called)) is)
          (ap (args_in scope) is) refl
          (known_operands call.operands b.1) (known_place call.place a.0) (known_label call.target c.1)
      known_called call _ is none fit formed = absurd formed

      known_switch : (switch : Switch) → unknown_in_switch w switch ≡ [] → IsEndIn p f (end_of paths scope (ends.Switch switch))
      unfolding unknown_in_switch end_of
      known_switch switch none =
          let b = none_both (unknown_in_operand w switch.operand ++ unknown_in_arms w switch.arms) (unknown_label w switch.otherwise) none in
          let a = none_both (unknown_in_operand w switch.operand) (unknown_in_arms w switch.arms) b.0 in
          (known_operand switch.operand a.0, known_arms switch.arms a.1, known_label switch.otherwise b.1)

      known_end : (end : End) → unknown_in_end paths scope w end ≡ [] → of_call (misfit_call paths functions) end ≡ [] → IsFormedEnd end → IsEndIn p f (end_of paths scope end)
      unfolding unknown_in_end end_of
      known_end ends.Return none fit formed = tt
      known_end ends.Unreachable none fit formed = tt
      known_end (ends.Goto label) none fit formed = known_label label none
      known_end (ends.Switch switch) none fit formed = known_switch switch none
      known_end (ends.Call call) none fit formed = known_called call call.called refl none fit formed
      known_end (ends.Drop place label) none fit formed = tt

      known_block : (block : Block) → unknown_in_block paths scope w block ≡ [] → misfit_block paths functions block ≡ [] → IsFormedEnd block.end → IsBlockIn p f (block_of paths scope block)
      unfolding unknown_in_block misfit_block block_of
      known_block block none fit formed =
          let parts = none_both (unknown_in_statements w block.statements) (unknown_in_end paths scope w block.end) none in
          record { statements = known_statements block.statements parts.0; end = known_end block.end parts.1 fit formed }

-- ---- functions

locals_length : (scope : Names) (w : Function) → length (locals_of scope w) ≡ 1 + (length w.signature.params + length w.body.lets)
unfolding locals_of types_of
locals_length scope w =
    omega (arith, length-append (map (type_of scope) w.signature.params) (map (type_of scope) w.body.lets), length-map w.signature.params (type_of scope), length-map w.body.lets (type_of scope))

module _ (p : Program) (functions : List Defined) (are : p.functions ≡ map (function_of (paths_to functions)) functions) where
  abbrev look_up : Names
  look_up = paths_to functions

  module _ (d : Defined) (formed : IsFormedFunction d.function) (none : unknown_in_scope look_up (names_in d.function) d.function ≡ []) (fit : misfits_in_function look_up functions d.function ≡ []) where
    pub known_function : IsFunctionIn p (function_of look_up d)
    unfolding unknown_in_scope unknown_in_blocks misfits_in_function function_in locals_of
    known_function =
        let w : Function = d.function in
        let scope : Names = names_in w in
        let f : made.Function = function_of look_up d in
        let low : (name : List ℕ) (k : ℕ) → scope name ≡ Some k → k < length w.type_params =
        λ name k is. (let inside = index_low (map (λ n. n.text) w.type_params) name k is in omega (arith, inside, length-map w.type_params (λ n. n.text))) in
        let c = none_both (unknown_in_types scope w.signature.params ++ option_map_or (unknown_in_type scope) w.signature.result [] ++ unknown_in_types scope w.body.lets) (unknown_in_blocks look_up scope w w.body.blocks) none in
        let b = none_both (unknown_in_types scope w.signature.params ++ option_map_or (unknown_in_type scope) w.signature.result []) (unknown_in_types scope w.body.lets) c.0 in
        let a = none_both (unknown_in_types scope w.signature.params) (option_map_or (unknown_in_type scope) w.signature.result []) b.0 in
        let each = none_each (unknown_in_block look_up scope w) w.body.blocks c.1 in
        let fitting = none_each (misfit_block look_up functions) w.body.blocks fit in
        let many : length f.locals ≡ 1 + (length w.signature.params + length w.body.lets) = locals_length scope w in
        let blocks : length f.blocks ≡ length w.body.blocks = length-map w.body.blocks (block_of look_up scope) in
        let few_locals = formed.few_locals in
        let some_block = formed.some_block in
        let few_blocks = formed.few_blocks in
        record {
          locals = omega (arith, many);
          few_locals = omega (arith, many, few_locals);
          types =
              All-cons (IsTypeUnder (length w.type_params)) (result_of scope w.signature.result) (types_of scope w.signature.params ++ types_of scope w.body.lets)
              (result_under scope (length w.type_params) low w.signature.result formed.result a.1)
              (All-append (IsTypeUnder (length w.type_params)) (types_of scope w.signature.params) (types_of scope w.body.lets)
              (types_under scope (length w.type_params) low w.signature.params formed.params a.0)
              (types_under scope (length w.type_params) low w.body.lets formed.lets b.1));
          some_block = omega (arith, blocks, some_block);
          few_blocks = omega (arith, blocks, few_blocks);
          blocks =
              All-map (IsBlockIn p f) (block_of look_up scope) w.body.blocks
              (λ k d within. known_block w f many blocks p functions are scope low (get_or w.body.blocks k d) (each k d within) (fitting k d within) (formed.blocks k d within));
        }

  -- ---- main

  kept_some : {X : Type 0} (g : X → List ℕ) (o : Option X) (line : ℕ) → option_map_or g o (line ∷ []) ≡ [] → (x : X) × (o ≡ Some x) × (g x ≡ [])
  kept_some g None line h = cc
  kept_some g (Some x) line h = (x, refl, h)

  looked_up : (o : Option ℕ) (d : Defined) → option_and_then (slice_get functions) o ≡ Some d → (k : ℕ) × (o ≡ Some k) × (slice_get functions k ≡ Some d)
  looked_up None d h = cc
  looked_up (Some k) d h = (k, refl, h)

  pub known_main : (krate : Crate) → bad_main look_up functions krate ≡ [] → p.main.0 ≡ index_in look_up (main_path krate.name.text) → HasMain p
  unfolding bad_main function_in
  known_main krate none main =
      let kept = kept_some (λ main. line_if (not (is_bare main.function)) main.line) (function_at look_up functions (main_path krate.name.text)) krate.line none in
      let d : Defined = kept.0 in
      let at = looked_up (look_up (main_path krate.name.text)) d kept.1 in
      let bare = and_parts (nat_eq (length d.function.type_params) 0) (nat_eq (length d.function.signature.params) 0) (none_unless (is_bare d.function) d.line kept.2) in
      record {
        main = function_of look_up d;
        named =
            ap (slice_get p.functions) (main ∙ ap (λ o. unwrap_or o 0) at.1)
            ∙ ap (λ fs. slice_get fs at.0) are ∙ slice_get-map (function_of look_up) functions at.0 ∙ ap (option_map (function_of look_up)) at.2;
        no_type_params = eqb-true (length d.function.type_params) 0 bare.0;
        no_params = eqb-true (length d.function.signature.params) 0 bare.1;
      }
