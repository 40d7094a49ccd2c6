-- Callees, operands and what is made by `new`, where what they mention breaks no rule.
use Rattle.std.proofs.Common.{◌≡◌, ℕ, ◌<◌, ◌^◌, List, [], ◌∷◌, None, Some, true, length, arith}
use Rattle.std.specs.declared.option.Option.{Option}
use Rattle.std.specs.List.{list_all}
use Rattle.std.specs.Prelude.{All}
use Rattle.std.proofs.lemmas.Bool.{ltb-true}
use Rattle.std.proofs.lemmas.List.{length-map}
use Rattle.std.proofs.lemmas.List.Elements.{All-head, All-map, All-tail}
use Rattle.std.proofs.lemmas.List.Sums.{AllPass-from_list_all}
use Rattle.mm_ast.specs.declared.bodies.Callee as callees
use Rattle.mm_ast.specs.declared.bodies.Callee.TheVariants as by
use Rattle.mm_ast.specs.declared.bodies.Called.{Called}
use Rattle.mm_ast.specs.declared.bodies.Called.TheVariants as calls
use Rattle.mm_ast.specs.declared.bodies.Operand as operands
use Rattle.mm_ast.specs.declared.bodies.Operand.TheVariants as values
use Rattle.mm_ast.specs.declared.bodies.Place as places
use Rattle.mm_ast.specs.declared.bodies.Place.TheVariants as bases
use Rattle.mm_ast.specs.declared.bodies.Step as steps
use Rattle.mm_ast.specs.declared.names.Name.{Name}
use Rattle.mm_ast.specs.declared.names.PathWithArgs.{PathWithArgs}
use Rattle.mm_definitions.specs.declared.kinds.Kind.TheVariants as kinds
use Rattle.mm_definitions.specs.declared.kinds.Wanted.{Wanted}
use Rattle.mm_definitions.specs.declared.kinds.Wanted.TheVariants as wants
use Rattle.mm_definitions.specs.Paths.{path_named}
use Rattle.mm_lower.specs.Bodies.{made_of, variant_of}
use Rattle.mm_lower.specs.Callees.{callee_of, operand_of, operands_of, called_of}
use Rattle.mm_lower.specs.Params.{Params}
use Rattle.mm_lower.specs.Paths.{def_of, place_at}
use Rattle.mm_lower.specs.Places.{place_of, step_of}
use Rattle.mm_lower.specs.Types.{type_of, types_of, trait_of}
use Rattle.mm_mentions.specs.BodyMentions.{place_mentions, operand_mentions, operands_mentions, called_mentions}
use Rattle.mm_mentions.specs.CalleeMentions.{callable, callee_mentions, named_mentions, new_mentions}
use Rattle.mm_mentions.specs.declared.frame.Frame.{Frame}
use Rattle.mm_mentions.specs.declared.mention.Mention.{Mention}
use Rattle.mm_mentions.specs.declared.mention.What.TheVariants as whats
use Rattle.mm_mentions.specs.Mentions.{at, path_at}
use Rattle.mm_mentions.specs.Scopes as mentions
use Rattle.mm_mentions.specs.TypeMentions as mentioned
use Rattle.mm_program.specs.declared.kind.DefKind.TheVariants as kind
use Rattle.mm_program.specs.declared.parts.Parts.{Parts}
use Rattle.mm_program.specs.Bodies.{IsPlaceIn, IsCalleeIn, IsOperandIn, AreOperandsIn, IsNewIn, Takes}
use Rattle.mm_program.specs.Types.{IsTypeIn, AreArgsFor}
use Rattle.mm_program.specs.Views.{IsOfKind}
use Rattle.mm_resolve.specs.Scopes.{Scope, leads_to}
use Rattle.mm_rules.specs.MentionRules.{broken}
use Rattle.mm_terms.specs.Lists.{All-apart}
use Rattle.mm_terms.proofs.ListLemmas.{and_left, and_right, All-both, All-from_flat_map}
use Rattle.mm_written.specs.Bodies.{written_step, written_steps, written_projection, written_place, written_callee, written_operand, written_operands, written_called}
use Rattle.mm_written.specs.Lists.{few}
use Rattle.mm_written.specs.Names.{written_variant_name}
use Rattle.mm_written.specs.Types.{written_args}
use Rattle.mm_load.specs.Leads.{Leads, Kept, InScope}
use Rattle.mm_load.proofs.CalleesMade.{direct_in, at_method, at_call, copy_of, move_of, number_in, truth_in, at_const, function_value, pointer_in, every_callee, direct_takes, at_method_takes, at_call_takes, pointer_takes}
use Rattle.mm_load.proofs.MentionsKept.{is_callable}
use Rattle.mm_load.proofs.MethodsIn.{method_in, method_takes}
use Rattle.mm_load.proofs.NamedIn.{path_kept, function_in, function_takes, const_in, static_in}
use Rattle.mm_load.proofs.NewIn.{made_in}
use Rattle.mm_load.proofs.TraitsIn.{args_for}
use Rattle.mm_load.proofs.TypesIn.{written_in, all_written_in}

-- ---- lists that are few

few_parts : {A : Type 0} (xs : List A) → few xs ≡ true → length xs < 2 ^ 32
unfolding few
few_parts xs is = ltb-true (length xs) 4294967296 is

few_steps : (list : List steps.Step) → written_steps list ≡ true → length list < 2 ^ 32
unfolding written_steps
few_steps list written = few_parts list (and_left (few list) (list_all written_step list) written)

few_operands : (os : List operands.Operand) → written_operands os ≡ true → length os < 2 ^ 32
unfolding written_operands
few_operands os written = few_parts os (and_left (few os) (list_all written_operand os) written)

each_operand : (os : List operands.Operand) → written_operands os ≡ true → list_all written_operand os ≡ true
unfolding written_operands
each_operand os written = and_right (few os) (list_all written_operand os) written

module _ (p : Parts) (scope : Scope) (leads : Leads p (leads_to scope)) (names : mentions.Scope) (params : Params) (n : ℕ) (in_scope : InScope names params n) where
  pub place_in : (frame : Frame) (place : places.Place) → Kept scope (place_mentions frame place) → written_place place ≡ true → IsPlaceIn p (place_of (leads_to scope) place)
  unfolding place_mentions written_place written_projection place_of
  place_in frame (bases.Local local) kept written = record { base = tt; steps = omega arith }
  place_in frame (bases.Projection projection) kept written =
      let short = few_steps (projection.first ∷ projection.others) written in
      record { base = tt; steps = omega (arith, short, length-map projection.others step_of) }
  place_in frame (bases.Static static) kept written =
      let short = few_steps static.steps written in
      record {
        base = static_in p scope leads (path_named static.path) 0 None (path_kept scope (wants.One kinds.Static) static.path 0 None [] kept);
        steps = omega (arith, short, length-map static.steps step_of);
      }

  -- the type arguments behind a path
  args_in : (w : Wanted) (named : PathWithArgs) (o : Option ℕ) → Kept scope (named_mentions names w named o) → written_args named ≡ true → All (IsTypeIn p n) (types_of (leads_to scope) params named.args)
  args_in w named o kept written =
      all_written_in p scope leads names params n in_scope named.args
      (All-tail (λ m. broken scope m.what ≡ []) (path_at w named.path (length named.args) o) (mentioned.written_types names named.args) kept)
      written

  -- the function with its type arguments
  function_at : (named : PathWithArgs) (o : Option ℕ) → Kept scope (named_mentions names (wants.One kinds.Function) named o) → written_args named ≡ true
      → IsOfKind p (def_of (leads_to scope) (wants.One kinds.Function) named.path) kind.Fn × AreArgsFor p n (def_of (leads_to scope) (wants.One kinds.Function) named.path) (types_of (leads_to scope) params named.args)
  function_at named o kept written =
      let found = path_kept scope (wants.One kinds.Function) named.path (length named.args) o (mentioned.written_types names named.args) kept in
      let is = function_in p scope leads (path_named named.path) (length named.args) o found in
      (is.0, args_for p (leads_to scope) params n (def_of (leads_to scope) (wants.One kinds.Function) named.path) named.args is.1 (args_in (wants.One kinds.Function) named o kept written))

  const_at : (named : PathWithArgs) → Kept scope (named_mentions names (wants.One kinds.Const) named None) → written_args named ≡ true
      → IsOfKind p (def_of (leads_to scope) (wants.One kinds.Const) named.path) kind.Const × AreArgsFor p n (def_of (leads_to scope) (wants.One kinds.Const) named.path) (types_of (leads_to scope) params named.args)
  const_at named kept written =
      let found = path_kept scope (wants.One kinds.Const) named.path (length named.args) None (mentioned.written_types names named.args) kept in
      let is = const_in p scope leads (path_named named.path) (length named.args) None found in
      (is.0, args_for p (leads_to scope) params n (def_of (leads_to scope) (wants.One kinds.Const) named.path) named.args is.1 (args_in (wants.One kinds.Const) named None kept written))

  -- whether or not it is called
  pub callee_in : (callee : callees.Callee) (count : Option ℕ) → Kept scope (callee_mentions names callee count) → written_callee callee ≡ true → IsCalleeIn p n (callee_of (leads_to scope) params callee)
  unfolding callee_mentions written_callee callee_of IsCalleeIn
  callee_in (by.Direct named) count kept is_written =
      direct_in p n (def_of (leads_to scope) (wants.One kinds.Function) named.path) (types_of (leads_to scope) params named.args) (function_at named count kept is_written)
  callee_in (by.Method m) count kept is_written =
      at_method p n (trait_of (leads_to scope) params m.self_type m.of) (place_at (leads_to scope) kinds.Method m.of.path m.name) (types_of (leads_to scope) params m.args)
      (method_in p scope leads names params n in_scope m count kept is_written)
  callee_in (by.Call c) count kept is_written =
      let self_kept = (All-apart (λ m. broken scope m.what ≡ []) (mentioned.written_type names c.self_type) (callable c.line count) kept).0 in
      at_call p n (type_of (leads_to scope) params c.self_type) (written_in p scope leads names params n in_scope c.self_type self_kept is_written)

  pub operand_in : (frame : Frame) (o : operands.Operand) → Kept scope (operand_mentions names frame o) → written_operand o ≡ true → IsOperandIn p n (operand_of (leads_to scope) params o)
  unfolding operand_mentions written_operand operand_of IsOperandIn
  operand_in frame (values.Copy place) kept written = copy_of p n (place_of (leads_to scope) place) (place_in frame place kept written)
  operand_in frame (values.Move place) kept written = move_of p n (place_of (leads_to scope) place) (place_in frame place kept written)
  operand_in frame (values.Number k) kept written = number_in p n k
  operand_in frame (values.Bool b) kept written = truth_in p n b
  operand_in frame (values.Const named) kept written =
      at_const p n (def_of (leads_to scope) (wants.One kinds.Const) named.path) (types_of (leads_to scope) params named.args) (const_at named kept written)
  operand_in frame (values.Fn callee) kept written = function_value p n (callee_of (leads_to scope) params callee) (every_callee p n (callee_of (leads_to scope) params callee) (callee_in callee None kept written))

  pub operands_in : (frame : Frame) (os : List operands.Operand) → Kept scope (operands_mentions names frame os) → written_operands os ≡ true → AreOperandsIn p n (operands_of (leads_to scope) params os)
  operands_in frame os kept written =
      let short = few_operands os written in
      record {
        few = omega (arith, short, length-map os (operand_of (leads_to scope) params));
        each =
            All-map (IsOperandIn p n) (operand_of (leads_to scope) params) os
            (All-both (λ o. Kept scope (operand_mentions names frame o)) (λ o. written_operand o ≡ true) (λ o. IsOperandIn p n (operand_of (leads_to scope) params o)) (operand_in frame) os
            (All-from_flat_map (λ m. broken scope m.what ≡ []) (operand_mentions names frame) os kept)
            (AllPass-from_list_all written_operand os (each_operand os written)));
      }

  -- what is called, with so many operands
  pub called_in : (frame : Frame) (called : Called) (count : ℕ) → Kept scope (called_mentions names frame called count) → written_called called ≡ true → IsCalleeIn p n (called_of (leads_to scope) params called)
  unfolding called_mentions written_called called_of
  called_in frame (calls.Callee callee) count kept written = callee_in callee (Some count) kept written
  called_in frame (calls.Pointer o) count kept written = pointer_in p n (operand_of (leads_to scope) params o) (operand_in frame o kept written)

  -- a callee by its name takes as many operands as its mention has
  callee_takes : (callee : callees.Callee) (count : ℕ) → Kept scope (callee_mentions names callee (Some count)) → written_callee callee ≡ true → Takes p (callee_of (leads_to scope) params callee) count
  unfolding callee_mentions written_callee callee_of trait_of
  callee_takes (by.Direct named) count kept is_written =
      direct_takes p (def_of (leads_to scope) (wants.One kinds.Function) named.path) (types_of (leads_to scope) params named.args) count
      (function_takes p scope leads (path_named named.path) (length named.args) count
      (path_kept scope (wants.One kinds.Function) named.path (length named.args) (Some count) (mentioned.written_types names named.args) kept))
  callee_takes (by.Method m) count kept is_written =
      at_method_takes p (trait_of (leads_to scope) params m.self_type m.of) (place_at (leads_to scope) kinds.Method m.of.path m.name) (types_of (leads_to scope) params m.args) count
      (method_takes p scope leads names params n in_scope m count kept is_written)
  callee_takes (by.Call c) count kept is_written =
      let IsKept : Mention → Type 0 = λ m. broken scope m.what ≡ [] in
      let count_kept = (All-apart IsKept (mentioned.written_type names c.self_type) (callable c.line (Some count)) kept).1 in
      at_call_takes p (type_of (leads_to scope) params c.self_type) count (is_callable scope count (All-head IsKept (at c.line (whats.Callable count)) [] count_kept))

  pub called_takes : (frame : Frame) (called : Called) (count : ℕ) → Kept scope (called_mentions names frame called count) → written_called called ≡ true → Takes p (called_of (leads_to scope) params called) count
  unfolding called_mentions written_called called_of
  called_takes frame (calls.Callee callee) count kept written = callee_takes callee count kept written
  called_takes frame (calls.Pointer o) count kept written = pointer_takes p (operand_of (leads_to scope) params o) count

  -- what is made, with so many operands
  pub new_in : (named : PathWithArgs) (variant : Option Name) (count : ℕ) → Kept scope (new_mentions names named variant count) → written_args named ≡ true → written_variant_name variant ≡ true
      → IsNewIn p n (made_of (leads_to scope) named variant) (types_of (leads_to scope) params named.args) (variant_of (leads_to scope) named variant) count
  new_in named variant count kept written spelled = made_in p scope leads names params n in_scope named variant count kept written spelled
