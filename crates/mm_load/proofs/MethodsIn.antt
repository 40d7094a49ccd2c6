-- Methods by their traits and their names, where what they mention breaks no rule.
use Rattle.std.proofs.Common.{◌≡◌, ℕ, ◌+◌, [], ◌∷◌, ◌++◌, ◌&&◌, None, Some, true, length, sym, ap, subst, ◌∙◌}
use Rattle.std.specs.declared.option.Option.{Option}
use Rattle.std.specs.Option.{IfSome, option_map_or}
use Rattle.std.proofs.lemmas.List.{length-map}
use Rattle.std.proofs.lemmas.List.Elements.{All-tail}
use Rattle.mm_ast.specs.declared.bodies.MethodCallee.{MethodCallee}
use Rattle.mm_ast.specs.declared.names.Name.{Name}
use Rattle.mm_definitions.specs.declared.kinds.Kind.TheVariants as kinds
use Rattle.mm_definitions.specs.declared.kinds.Wanted.TheVariants as wants
use Rattle.mm_definitions.specs.declared.named.Named.{Named}
use Rattle.mm_definitions.specs.Paths.{path_in, path_named}
use Rattle.mm_lower.specs.Params.{Params}
use Rattle.mm_lower.specs.Paths.{def_of, place_at}
use Rattle.mm_lower.specs.Types.{type_of, types_of, trait_of}
use Rattle.mm_mentions.specs.CalleeMentions.{method_callee_mentions, named_mentions}
use Rattle.mm_mentions.specs.declared.mention.Mention.{Mention}
use Rattle.mm_mentions.specs.Mentions.{member_at}
use Rattle.mm_mentions.specs.Scopes as mentions
use Rattle.mm_mentions.specs.TypeMentions as mentioned
use Rattle.mm_names.specs.Runs.{is_name}
use Rattle.mm_program.specs.declared.parts.Parts.{Parts}
use Rattle.mm_program.specs.Bodies.{IsMethodIn, method_at}
use Rattle.mm_program.specs.Views.{params_of, type_params_of}
use Rattle.mm_resolve.specs.Scopes.{Scope, leads_to}
use Rattle.mm_rules.specs.MentionRules.{broken}
use Rattle.mm_terms.specs.Lists.{All-apart}
use Rattle.mm_terms.proofs.ListLemmas.{and_left, and_right}
use Rattle.mm_written.specs.Bodies.{written_method_callee}
use Rattle.mm_written.specs.Names.{written_name}
use Rattle.mm_written.specs.Types.{written_args, written_type, written_types}
use Rattle.mm_load.specs.Leads.{Leads, Kept, InScope, HasMethod}
use Rattle.mm_load.proofs.NamedIn.{path_kept, member_kept, operands_found, def_is, is_as}
use Rattle.mm_load.proofs.PathsIn.{Found}
use Rattle.mm_load.proofs.SignaturesIn.{trait_in}
use Rattle.mm_load.proofs.TypesIn.{all_written_in}

pub name_is : (name : Name) → written_name name ≡ true → is_name name.text ≡ true
unfolding written_name
name_is name written = written

-- the parts of a method callee
record WrittenMethod (m : MethodCallee) : Type 0 where
  self_type : written_type m.self_type ≡ true
  of : written_args m.of ≡ true
  name : is_name m.name.text ≡ true
  args : written_types m.args ≡ true

parts_written : (m : MethodCallee) → written_method_callee m ≡ true → WrittenMethod m
unfolding written_method_callee
parts_written m written =
    let self_type = written_type m.self_type in
    let of = written_args m.of in
    let name = written_name m.name in
    let args = written_types m.args in
    let three = and_left (self_type && of && name) args written in
    let two = and_left (self_type && of) name three in
    record {
      self_type = and_left self_type of two;
      of = and_right self_type of two;
      name = name_is m.name (and_right (self_type && of) name three);
      args = and_right (self_type && of && name) args written;
    }

-- and what each of them mentions
record KeptMethod (scope : Scope) (names : mentions.Scope) (m : MethodCallee) (count : Option ℕ) : Type 0 where
  self_type : Kept scope (mentioned.written_type names m.self_type)
  of : Kept scope (named_mentions names (wants.One kinds.Trait) m.of None)
  method : Kept scope (member_at (wants.One kinds.Method) m.of.path m.name (length m.args) count ∷ mentioned.written_types names m.args)

parts_kept : (scope : Scope) (names : mentions.Scope) (m : MethodCallee) (count : Option ℕ) → Kept scope (method_callee_mentions names m count) → KeptMethod scope names m count
unfolding method_callee_mentions
parts_kept scope names m count kept =
    let IsKept : Mention → Type 0 = λ x. broken scope x.what ≡ [] in
    let self_type = mentioned.written_type names m.self_type in
    let of = named_mentions names (wants.One kinds.Trait) m.of None in
    let outer = All-apart IsKept (self_type ++ of) (member_at (wants.One kinds.Method) m.of.path m.name (length m.args) count ∷ mentioned.written_types names m.args) kept in
    let inner = All-apart IsKept self_type of outer.0 in
    record { self_type = inner.0; of = inner.1; method = outer.1 }

-- the trait and the method that are found
record FoundMethod (p : Parts) (scope : Scope) (m : MethodCallee) (count : Option ℕ) : Type 0 where
  tr : Found scope (wants.One kinds.Trait) (path_named m.of.path) (length m.of.args) None
  method : Found scope (wants.One kinds.Method) (path_in (path_named m.of.path) m.name.text) (length m.args) count
  has : HasMethod p tr.to method.to

module _ (p : Parts) (scope : Scope) (leads : Leads p (leads_to scope)) (names : mentions.Scope) (params : Params) (n : ℕ) (in_scope : InScope names params n) where
  found_method : (m : MethodCallee) (count : Option ℕ) → KeptMethod scope names m count → WrittenMethod m → FoundMethod p scope m count
  found_method m count kept written =
      let tr = path_kept scope (wants.One kinds.Trait) m.of.path (length m.of.args) None (mentioned.written_types names m.of.args) kept.of in
      let method = member_kept scope (wants.One kinds.Method) m.of.path m.name (length m.args) count (mentioned.written_types names m.args) kept.method in
      record { tr = tr; method = method; has = leads.method (path_named m.of.path) m.name tr.to method.to written.name tr.leads method.leads }

  -- it stands at its place in the trait
  method_there : (m : MethodCallee) (count : Option ℕ) (f : FoundMethod p scope m count) → method_at p (def_of (leads_to scope) (wants.One kinds.Trait) m.of.path) (place_at (leads_to scope) kinds.Method m.of.path m.name) ≡ Some f.method.to.def
  method_there m count f =
      let tr_is = def_is p scope leads (wants.One kinds.Trait) (path_named m.of.path) (length m.of.args) None f.tr in
      let place_is : place_at (leads_to scope) kinds.Method m.of.path m.name ≡ f.method.to.place = ap (λ (o : Option Named). option_map_or (λ d. d.place) o 0) f.method.leads in
      (λ i. method_at p (tr_is i) (place_is i)) ∙ f.has.there

  pub method_in : (m : MethodCallee) (count : Option ℕ) → Kept scope (method_callee_mentions names m count) → written_method_callee m ≡ true
      → IsMethodIn p n (trait_of (leads_to scope) params m.self_type m.of) (place_at (leads_to scope) kinds.Method m.of.path m.name) (types_of (leads_to scope) params m.args)
  unfolding trait_of
  method_in m count kept written =
      let kept_parts = parts_kept scope names m count kept in
      let written_parts = parts_written m written in
      let f = found_method m count kept_parts written_parts in
      let tr_is = def_is p scope leads (wants.One kinds.Trait) (path_named m.of.path) (length m.of.args) None f.tr in
      let many : length (types_of (leads_to scope) params m.args) ≡ f.method.to.type_params = length-map m.args (type_of (leads_to scope) params) ∙ f.method.type_params in
      record {
        trait_head = trait_in p scope leads names params n in_scope m.self_type m.of kept_parts.self_type kept_parts.of written_parts.self_type written_parts.of;
        method = f.method.to.def;
        there = method_there m count f;
        count = (λ i. type_params_of p (tr_is i) + many i) ∙ f.has.type_params;
        types =
            all_written_in p scope leads names params n in_scope m.args
            (All-tail (λ x. broken scope x.what ≡ []) (member_at (wants.One kinds.Method) m.of.path m.name (length m.args) count) (mentioned.written_types names m.args) kept_parts.method)
            written_parts.args;
      }

  pub method_takes : (m : MethodCallee) (k : ℕ) → Kept scope (method_callee_mentions names m (Some k)) → written_method_callee m ≡ true
      → IfSome (method_at p (def_of (leads_to scope) (wants.One kinds.Trait) m.of.path) (place_at (leads_to scope) kinds.Method m.of.path m.name)) (λ method. k ≡ length (params_of p method))
  method_takes m k kept written =
      let f = found_method m (Some k) (parts_kept scope names m (Some k) kept) (parts_written m written) in
      let path = path_in (path_named m.of.path) m.name.text in
      let held = is_as p scope leads kinds.Method path (length m.args) (Some k) f.method in
      let takes : k ≡ length (params_of p f.method.to.def) = operands_found scope (wants.One kinds.Method) path (length m.args) k f.method ∙ held.1 in
      subst (λ o. IfSome o (λ method. k ≡ length (params_of p method))) (sym (method_there m (Some k) f)) takes
