-- Statics and constants, as they are made.
use Rattle.std.proofs.Common.{◌≡◌, ℕ, List, [], length, Bool, true, ◌&&◌, refl, arith}
use Rattle.std.proofs.lemmas.List.Elements.{All-nil}
use Rattle.std.specs.List.{All}
use Rattle.mm_ast.specs.declared.items.Const.{Const}
use Rattle.mm_ast.specs.declared.items.Static.{Static}
use Rattle.mm_lower.specs.Items.{Site, static_part, const_part}
use Rattle.mm_lower.specs.Params.{numbered, texts}
use Rattle.mm_mentions.specs.FunctionMentions.{scope_with}
use Rattle.mm_mentions.specs.ItemMentions.{valued_mentions}
use Rattle.mm_mentions.specs.Scopes.{of_params}
use Rattle.mm_mentions.specs.TermMentions.{term_mentions}
use Rattle.mm_mentions.specs.TypeMentions as mentioned
use Rattle.mm_program.specs.declared.parts.Parts.{Parts}
use Rattle.mm_program.specs.Types.{IsTypeIn, IsHeadIn}
use Rattle.mm_program.specs.Valid.{IsShort}
use Rattle.mm_resolve.specs.Scopes.{Scope, leads_to}
use Rattle.mm_terms.proofs.ListLemmas.{and_left, and_right}
use Rattle.mm_terms.specs.declared.tree.Tree.{Tree}
use Rattle.mm_written.specs.Items.{written_static, written_const}
use Rattle.mm_written.specs.Names.{written_name, written_names}
use Rattle.mm_written.specs.Terms.{written_term}
use Rattle.mm_written.specs.Types.{written_type}
use Rattle.mm_load.specs.Leads.{Leads, Kept}
use Rattle.mm_load.proofs.Made.{IsMade}
use Rattle.mm_load.proofs.MadeLists.{kept_left, kept_right}
use Rattle.mm_load.proofs.ParamsInScope.{params_in_scope}
use Rattle.mm_load.proofs.TermsIn.{term_in}
use Rattle.mm_load.proofs.TypesIn.{written_in}

module _ (p : Parts) (scope : Scope) (leads : Leads p (leads_to scope)) (site : Site) (is_pub : Bool) where
  pub static_made : (s : Static) → Kept scope (valued_mentions (scope_with (of_params [])) s.ty s.term) → written_static s ≡ true → IsMade p (static_part (leads_to scope) site is_pub s)
  unfolding static_part written_static
  static_made s kept written =
      let typed = mentioned.written_type (scope_with (of_params [])) s.ty in
      let valued = term_mentions (scope_with (of_params [])) s.term in
      let front : (written_name s.name && written_type s.ty) ≡ true = and_left (written_name s.name && written_type s.ty) (written_term s.term) written in
      record {
        has = record { parent = refl; head = refl; drop_self = refl; result = refl; term = refl; fields = refl; one_variant = tt; methods = refl; drop_impl = refl; params = refl; bounds = refl; bodies = refl; body = tt };
        short = record { variants = omega arith; fields = All-nil (λ (ts : List Tree). IsShort ts); methods = omega arith; params = omega arith; bounds = omega arith };
        fields = All-nil (All (IsTypeIn p 0));
        head = tt;
        drop_self = tt;
        params = All-nil (IsTypeIn p 0);
        result = written_in p scope leads (scope_with (of_params [])) (numbered []) 0 (params_in_scope []) s.ty (kept_left scope typed valued kept) (and_right (written_name s.name) (written_type s.ty) front);
        term = term_in p scope leads (scope_with (of_params [])) (numbered []) 0 (params_in_scope []) s.term (kept_right scope typed valued kept) (and_right (written_name s.name && written_type s.ty) (written_term s.term) written);
        bounds = All-nil (IsHeadIn p 0);
        body = tt;
        drop_impl = refl;
      }

  pub const_made : (c : Const) → Kept scope (valued_mentions (scope_with (of_params c.type_params)) c.ty c.term) → written_const c ≡ true → IsMade p (const_part (leads_to scope) site is_pub c)
  unfolding const_part written_const
  const_made c kept written =
      let typed = mentioned.written_type (scope_with (of_params c.type_params)) c.ty in
      let valued = term_mentions (scope_with (of_params c.type_params)) c.term in
      let named : Bool = written_name c.name && written_names c.type_params in
      let front : (named && written_type c.ty) ≡ true = and_left (named && written_type c.ty) (written_term c.term) written in
      let n : ℕ = length c.type_params in
      record {
        has = record { parent = refl; head = refl; drop_self = refl; result = refl; term = refl; fields = refl; one_variant = tt; methods = refl; drop_impl = refl; params = refl; bounds = refl; bodies = refl; body = tt };
        short = record { variants = omega arith; fields = All-nil (λ (ts : List Tree). IsShort ts); methods = omega arith; params = omega arith; bounds = omega arith };
        fields = All-nil (All (IsTypeIn p n));
        head = tt;
        drop_self = tt;
        params = All-nil (IsTypeIn p n);
        result = written_in p scope leads (scope_with (of_params c.type_params)) (numbered (texts c.type_params)) n (params_in_scope c.type_params) c.ty (kept_left scope typed valued kept) (and_right named (written_type c.ty) front);
        term = term_in p scope leads (scope_with (of_params c.type_params)) (numbered (texts c.type_params)) n (params_in_scope c.type_params) c.term (kept_right scope typed valued kept) (and_right (named && written_type c.ty) (written_term c.term) written);
        bounds = All-nil (IsHeadIn p n);
        body = tt;
        drop_impl = refl;
      }
