-- Structs and enums, as they are made.
use Rattle.std.proofs.Common.{◌≡◌, List, [], length, Bool, true, ◌&&◌, refl, arith}
use Rattle.std.proofs.lemmas.List.{length-map}
use Rattle.std.proofs.lemmas.List.Elements.{All-nil, All-cons, All-map, All-weaker}
use Rattle.std.specs.List.{All, flat_map}
use Rattle.mm_ast.specs.declared.items.Enum.{Enum}
use Rattle.mm_ast.specs.declared.items.Struct.{Struct}
use Rattle.mm_ast.specs.declared.items.Variant.{Variant}
use Rattle.mm_ast.specs.declared.names.Name.{Name}
use Rattle.mm_ast.specs.declared.types.Type as types
use Rattle.mm_lower.specs.Items.{Site, struct_part, enum_part}
use Rattle.mm_lower.specs.Params.{numbered, texts}
use Rattle.mm_lower.specs.Types.{types_of}
use Rattle.mm_mentions.specs.FunctionMentions.{scope_with}
use Rattle.mm_mentions.specs.Scopes.{of_params}
use Rattle.mm_mentions.specs.TypeMentions as mentioned
use Rattle.mm_program.specs.declared.parts.Parts.{Parts}
use Rattle.mm_program.specs.Types.{IsTypeIn, IsHeadIn}
use Rattle.mm_program.specs.Valid.{IsShort}
use Rattle.mm_resolve.specs.Scopes.{Scope, leads_to}
use Rattle.mm_rules.specs.MentionRules.{broken}
use Rattle.mm_terms.proofs.ListLemmas.{All-both, All-from_flat_map, and_right}
use Rattle.mm_terms.specs.declared.tree.Tree.{Tree}
use Rattle.mm_written.specs.Items.{written_struct, written_enum, written_variant}
use Rattle.mm_written.specs.Lists.{few_each}
use Rattle.mm_written.specs.Names.{written_name, written_names}
use Rattle.mm_written.specs.Types.{written_types}
use Rattle.mm_load.specs.Leads.{Leads, Kept}
use Rattle.mm_load.proofs.Made.{IsMade}
use Rattle.mm_load.proofs.MadeLists.{each_few, each_passes, types_short}
use Rattle.mm_load.proofs.ParamsInScope.{params_in_scope}
use Rattle.mm_load.proofs.TypesIn.{all_written_in}

variant_fields : (v : Variant) → written_variant v ≡ true → written_types v.fields ≡ true
unfolding written_variant
variant_fields v written = and_right (written_name v.name) (written_types v.fields) written

module _ (p : Parts) (scope : Scope) (leads : Leads p (leads_to scope)) (site : Site) where
  -- the types of fields, where these are the type parameters
  fields_in : (names : List Name) (ts : List types.«Type») → Kept scope (mentioned.written_types (scope_with (of_params names)) ts) → written_types ts ≡ true
      → All (IsTypeIn p (length names)) (types_of (leads_to scope) (numbered (texts names)) ts)
  fields_in names ts kept written = all_written_in p scope leads (scope_with (of_params names)) (numbered (texts names)) (length names) (params_in_scope names) ts kept written

  pub struct_made : (is_pub : Bool) (s : Struct) → Kept scope (mentioned.written_types (scope_with (of_params s.type_params)) s.fields) → written_struct s ≡ true → IsMade p (struct_part (leads_to scope) site is_pub s)
  unfolding struct_part written_struct
  struct_made is_pub s kept written =
      let spelled : written_types s.fields ≡ true = and_right (written_name s.name && written_names s.type_params) (written_types s.fields) written in
      let tys : List Tree = types_of (leads_to scope) (numbered (texts s.type_params)) s.fields in
      record {
        has = record { parent = refl; head = refl; drop_self = refl; result = refl; term = refl; fields = tt; one_variant = refl; methods = refl; drop_impl = tt; params = refl; bounds = refl; bodies = refl; body = tt };
        short = record {
          variants = omega arith;
          fields = All-cons (λ (ts : List Tree). IsShort ts) tys [] (types_short (leads_to scope) (numbered (texts s.type_params)) s.fields spelled) (All-nil (λ (ts : List Tree). IsShort ts));
          methods = omega arith;
          params = omega arith;
          bounds = omega arith;
        };
        fields = All-cons (All (IsTypeIn p (length s.type_params))) tys [] (fields_in s.type_params s.fields kept spelled) (All-nil (All (IsTypeIn p (length s.type_params))));
        head = tt;
        drop_self = tt;
        params = All-nil (IsTypeIn p (length s.type_params));
        result = tt;
        term = tt;
        bounds = All-nil (IsHeadIn p (length s.type_params));
        body = tt;
        drop_impl = refl;
      }

  pub enum_made : (is_pub : Bool) (e : Enum) → Kept scope (flat_map (λ v. mentioned.written_types (scope_with (of_params e.type_params)) v.fields) e.variants) → written_enum e ≡ true → IsMade p (enum_part (leads_to scope) site is_pub e)
  unfolding enum_part written_enum
  enum_made is_pub e kept written =
      let spelled : few_each written_variant e.variants ≡ true = and_right (written_name e.name && written_names e.type_params) (few_each written_variant e.variants) written in
      let each : All (λ v. written_variant v ≡ true) e.variants = each_passes written_variant e.variants spelled in
      let kept_each : All (λ v. Kept scope (mentioned.written_types (scope_with (of_params e.type_params)) v.fields)) e.variants =
      All-from_flat_map (λ m. broken scope m.what ≡ []) (λ v. mentioned.written_types (scope_with (of_params e.type_params)) v.fields) e.variants kept in
      let lowered : Variant → List Tree = λ v. types_of (leads_to scope) (numbered (texts e.type_params)) v.fields in
      record {
        has = record { parent = refl; head = refl; drop_self = refl; result = refl; term = refl; fields = tt; one_variant = tt; methods = refl; drop_impl = tt; params = refl; bounds = refl; bodies = refl; body = tt };
        short = record {
          variants = omega (arith, length-map e.variants lowered, each_few written_variant e.variants spelled);
          fields = All-map (λ (ts : List Tree). IsShort ts) lowered e.variants
              (All-weaker (λ v. written_variant v ≡ true) (λ v. IsShort (lowered v)) (λ v is. types_short (leads_to scope) (numbered (texts e.type_params)) v.fields (variant_fields v is)) e.variants each);
          methods = omega arith;
          params = omega arith;
          bounds = omega arith;
        };
        fields = All-map (All (IsTypeIn p (length e.type_params))) lowered e.variants
            (All-both (λ v. Kept scope (mentioned.written_types (scope_with (of_params e.type_params)) v.fields)) (λ v. written_variant v ≡ true) (λ v. All (IsTypeIn p (length e.type_params)) (lowered v))
            (λ v kept is. fields_in e.type_params v.fields kept (variant_fields v is)) e.variants kept_each each);
        head = tt;
        drop_self = tt;
        params = All-nil (IsTypeIn p (length e.type_params));
        result = tt;
        term = tt;
        bounds = All-nil (IsHeadIn p (length e.type_params));
        body = tt;
        drop_impl = refl;
      }
