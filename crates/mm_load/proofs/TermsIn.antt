-- Constant terms of the program, where what they mention breaks no rule.
use Rattle.std.proofs.Common.{◌≡◌, ℕ, ◌<◌, ◌^◌, List, [], ◌&&◌, None, length, map, true, refl, sym, subst, ◌∙◌, arith}
use Rattle.std.specs.List.{list_all}
use Rattle.std.specs.Prelude.{All}
use Rattle.std.proofs.lemmas.Bool.{ltb-true}
use Rattle.std.proofs.lemmas.List.{length-map}
use Rattle.std.proofs.lemmas.List.Elements.{All-map}
use Rattle.std.proofs.lemmas.List.Sums.{AllPass-from_list_all}
use Rattle.mm_ast.specs.declared.terms.Term as terms
use Rattle.mm_ast.specs.declared.terms.Term.TheFolds.{fold_out-Term}
use Rattle.mm_ast.specs.declared.terms.Term.TheViews.{out-Term}
use Rattle.mm_ast.specs.declared.terms.TermHead.{TermHead}
use Rattle.mm_ast.specs.declared.terms.TermHead.TheVariants as heads
use Rattle.mm_definitions.specs.declared.kinds.Kind.TheVariants as kinds
use Rattle.mm_definitions.specs.declared.kinds.Wanted.TheVariants as wants
use Rattle.mm_definitions.specs.Paths.{path_named}
use Rattle.mm_lower.specs.Bodies.{made_of, variant_of}
use Rattle.mm_lower.specs.Callees.{callee_of}
use Rattle.mm_lower.specs.Params.{Params}
use Rattle.mm_lower.specs.Paths.{Paths, def_of}
use Rattle.mm_lower.specs.Terms.{term_over, term_of}
use Rattle.mm_lower.specs.Types.{types_of}
use Rattle.mm_mentions.proofs.TermLemmas.{term_parts}
use Rattle.mm_mentions.specs.declared.mention.Mention.{Mention}
use Rattle.mm_mentions.specs.Scopes as mentions
use Rattle.mm_mentions.specs.TermMentions.{term_head_mentions, term_mentions, terms_mentions}
use Rattle.mm_program.specs.declared.parts.Parts.{Parts}
use Rattle.mm_program.specs.declared.term.Term.{Term}
use Rattle.mm_program.specs.declared.term.Term.TheFolds.{every-Term, every_made-Term}
use Rattle.mm_program.specs.declared.term.Term.TheOpen as layer
use Rattle.mm_program.specs.declared.term.Term.TheVariants.{rolls-Num, rolls-Truth, rolls-Tuple, rolls-New, rolls-Fn, rolls-At}
use Rattle.mm_program.specs.Bodies.{IsNewIn}
use Rattle.mm_program.specs.Terms.{IsTermHere, IsTermIn}
use Rattle.mm_resolve.specs.Scopes.{Scope, leads_to}
use Rattle.mm_rules.specs.MentionRules.{broken}
use Rattle.mm_terms.specs.Lists.{All-apart}
use Rattle.mm_terms.proofs.ListLemmas.{and_left, and_right, All-both, All-from_flat_map}
use Rattle.mm_written.proofs.TermLemmas.{written_term_parts}
use Rattle.mm_written.specs.Lists.{few}
use Rattle.mm_written.specs.Names.{written_variant_name}
use Rattle.mm_written.specs.Terms.{written_term, written_term_head}
use Rattle.mm_written.specs.Types.{written_args}
use Rattle.mm_load.specs.Leads.{Leads, Kept, InScope}
use Rattle.mm_load.proofs.Below.{callee_below}
use Rattle.mm_load.proofs.CalleesIn.{callee_in, new_in}
use Rattle.mm_load.proofs.NamedIn.{path_kept, static_in}
use Rattle.mm_load.proofs.TermInduction.{term_ind, paired, paired_are}

lowered_parts : (paths : Paths) (params : Params) (t : terms.Term) → term_of paths params t ≡ term_over paths params (out-Term t).head (map (term_of paths params) (out-Term t).parts)
unfolding term_of
lowered_parts paths params t = fold_out-Term Term (λ layer. term_over paths params layer.head layer.parts) t

few_parts : (parts : List terms.Term) → few parts ≡ true → length parts < 2 ^ 32
unfolding few
few_parts parts written = ltb-true (length parts) 4294967296 written

module _ (p : Parts) (scope : Scope) (leads : Leads p (leads_to scope)) (names : mentions.Scope) (params : Params) (n : ℕ) (in_scope : InScope names params n) where
  abbrev Here : layer.Term-F Term → Type 0
  Here = IsTermHere p n

  -- a head over terms of the program
  over_in : (head : TermHead) (parts : List terms.Term) → Kept scope (term_head_mentions names head (length parts)) → written_term_head head ≡ true → length parts < 2 ^ 32
      → All (every-Term Here) (map (term_of (leads_to scope) params) parts) → every-Term Here (term_over (leads_to scope) params head (map (term_of (leads_to scope) params) parts))
  unfolding term_head_mentions term_over written_term_head
  over_in (heads.Number k) parts kept written short each = subst (every-Term Here) (rolls-Num k) (every_made-Term Here (layer.Num k) (layer.Num k) refl tt)
  over_in (heads.Bool b) parts kept written short each = subst (every-Term Here) (rolls-Truth b) (every_made-Term Here (layer.Truth b) (layer.Truth b) refl tt)
  over_in heads.Tuple parts kept written short each =
      let below = map (term_of (leads_to scope) params) parts in
      subst (every-Term Here) (rolls-Tuple below)
      (every_made-Term Here (layer.Tuple below) (layer.Tuple (paired (every-Term Here) below each)) (λ i. layer.Tuple (paired_are (every-Term Here) below each i)) (omega (arith, short, length-map parts (term_of (leads_to scope) params))))
  over_in (heads.New named variant) parts kept written short each =
      let below = map (term_of (leads_to scope) params) parts in
      let d = made_of (leads_to scope) named variant in
      let args = types_of (leads_to scope) params named.args in
      let number = variant_of (leads_to scope) named variant in
      let as_many : length below ≡ length parts = length-map parts (term_of (leads_to scope) params) in
      let is =
      new_in p scope leads names params n in_scope named variant (length parts) kept
      (and_left (written_args named) (written_variant_name variant) written)
      (and_right (written_args named) (written_variant_name variant) written)
      in
      subst (every-Term Here) (rolls-New d args number below)
      (every_made-Term Here (layer.New d args number below) (layer.New d args number (paired (every-Term Here) below each)) (λ i. layer.New d args number (paired_are (every-Term Here) below each i))
      (subst (IsNewIn p n d args number) (sym as_many) is, omega (arith, short, as_many)))
  over_in (heads.Fn function) parts kept written short each =
      let callee = callee_of (leads_to scope) params function in
      subst (every-Term Here) (rolls-Fn callee)
      (every_made-Term Here (layer.Fn callee) (layer.Fn callee) refl (callee_in p scope leads names params n in_scope function None kept written, callee_below (leads_to scope) params 0 function))
  over_in (heads.At path) parts kept written short each =
      let d = def_of (leads_to scope) (wants.One kinds.Static) path in
      subst (every-Term Here) (rolls-At d)
      (every_made-Term Here (layer.At d) (layer.At d) refl (static_in p scope leads (path_named path) 0 None (path_kept scope (wants.One kinds.Static) path 0 None [] kept)))

  abbrev IsIn : terms.Term → Type 0
  IsIn t = Kept scope (term_mentions names t) → written_term t ≡ true → every-Term Here (term_of (leads_to scope) params t)

  above : (t : terms.Term) → All IsIn (out-Term t).parts → IsIn t
  above t below kept written =
      let head = (out-Term t).head in
      let parts = (out-Term t).parts in
      let IsKept : Mention → Type 0 = λ m. broken scope m.what ≡ [] in
      let apart = All-apart IsKept (term_head_mentions names head (length parts)) (terms_mentions names parts) (subst (All IsKept) (term_parts names t) kept) in
      let is = sym (written_term_parts t) ∙ written in
      let first = and_left (written_term_head head && few parts) (list_all written_term parts) is in
      let inside =
      All-both IsIn (λ part. Kept scope (term_mentions names part) × (written_term part ≡ true)) (λ part. every-Term Here (term_of (leads_to scope) params part)) (λ part so both. so both.0 both.1) parts below
      (All-both (λ part. Kept scope (term_mentions names part)) (λ part. written_term part ≡ true) (λ part. Kept scope (term_mentions names part) × (written_term part ≡ true)) (λ part one other. (one, other)) parts
      (All-from_flat_map IsKept (term_mentions names) parts apart.1)
      (AllPass-from_list_all written_term parts (and_right (written_term_head head && few parts) (list_all written_term parts) is)))
      in
      subst (every-Term Here) (sym (lowered_parts (leads_to scope) params t))
      (over_in head parts apart.0 (and_left (written_term_head head) (few parts) first) (few_parts parts (and_right (written_term_head head) (few parts) first))
      (All-map (every-Term Here) (term_of (leads_to scope) params) parts inside))

  pub term_in : (t : terms.Term) → Kept scope (term_mentions names t) → written_term t ≡ true → IsTermIn p n (term_of (leads_to scope) params t)
  unfolding IsTermIn
  term_in t kept written = term_ind IsIn above t kept written
