-- What holds of a tree that keeps the rules.
use Rattle.std.proofs.Common.{◌≡◌, ℕ, List, [], ◌∷◌, ◌++◌, Some, refl, subst}
use Rattle.std.proofs.lemmas.List.Elements.{Contains-append_left, Contains-append_right}
use Rattle.std.specs.List.{All, Contains, slice_get}
use Rattle.mm_ast.specs.declared.items.Crate.{Crate}
use Rattle.mm_mentions.specs.declared.mention.Mention.{Mention}
use Rattle.mm_mentions.specs.ItemMentions.{mentions_in}
use Rattle.mm_resolve.specs.Doubles.{repeated, doubled}
use Rattle.mm_resolve.specs.Scopes.{Scope}
use Rattle.mm_terms.proofs.ListLemmas.{All-from_contains, Contains-flat_map, Contains-here, Contains-map, Contains-nil}
use Rattle.mm_rules.specs.declared.fault.CrateRule.{CrateRule}
use Rattle.mm_rules.specs.declared.fault.CrateRule.TheVariants.{DoubleName, BadMain, BadDropImpl}
use Rattle.mm_rules.specs.declared.fault.Fault.{Fault}
use Rattle.mm_rules.specs.MainRule.{bad_main}
use Rattle.mm_rules.specs.MentionRules.{fault_at, at_line, broken, faults_in}
use Rattle.mm_rules.specs.TreeFaults.{start, faults_behind, faults_at, faults_of, scope_of, targets_of}
use Rattle.mm_rules.proofs.TreeLemmas.{among_faults}

no_element : {X : Type 0} (xs : List X) → ((x : X) → Contains xs x → ⊥) → xs ≡ []
no_element [] none = refl
no_element (x ∷ xs) none = absurd (none x (Contains-here x xs))

-- a rule that a mention breaks is a fault at its line
broken_here : (scope : Scope) (mentions : List Mention) (m : Mention) (rule : CrateRule) → Contains mentions m → Contains (broken scope m.what) rule → Contains (faults_in scope mentions) (fault_at m.line rule)
unfolding faults_in
broken_here scope mentions m rule has breaks =
    Contains-flat_map (λ n. at_line n.line (broken scope n.what)) mentions m (fault_at m.line rule) has
    (Contains-map (fault_at m.line) (broken scope m.what) rule breaks)

-- ---- the four parts of all faults

module _ (crates : List Crate) (f : Fault) where
  abbrev mentioned : List Fault
  mentioned = faults_behind start crates

  abbrev names : List Fault
  names = faults_at DoubleName (doubled crates)

  abbrev mains : List Fault
  mains = faults_at BadMain (bad_main crates)

  abbrev drops : List Fault
  drops = faults_at BadDropImpl (repeated [] (targets_of crates))

  in_mentioned : Contains mentioned f → Contains (faults_of crates) f
  unfolding faults_of
  in_mentioned has = Contains-append_left (mentioned ++ names ++ mains) drops f (Contains-append_left (mentioned ++ names) mains f (Contains-append_left mentioned names f has))

  in_names : Contains names f → Contains (faults_of crates) f
  unfolding faults_of
  in_names has = Contains-append_left (mentioned ++ names ++ mains) drops f (Contains-append_left (mentioned ++ names) mains f (Contains-append_right mentioned names f has))

  in_mains : Contains mains f → Contains (faults_of crates) f
  unfolding faults_of
  in_mains has = Contains-append_left (mentioned ++ names ++ mains) drops f (Contains-append_right (mentioned ++ names) mains f has)

  in_drops : Contains drops f → Contains (faults_of crates) f
  unfolding faults_of
  in_drops has = Contains-append_right (mentioned ++ names ++ mains) drops f has

-- ---- no faults

module _ (crates : List Crate) (kept : faults_of crates ≡ []) where
  no_fault : (f : Fault) → Contains (faults_of crates) f → ⊥
  no_fault f has = Contains-nil f (subst (λ fs. Contains fs f) kept has)

  -- no mention of a crate breaks a rule in the scope in which the crate stands
  pub kept_mentions : (i : ℕ) (k : Crate) → slice_get crates i ≡ Some k → All (λ m. broken (scope_of crates i) m.what ≡ []) (mentions_in k)
  kept_mentions i k at =
      All-from_contains (λ m. broken (scope_of crates i) m.what ≡ []) (mentions_in k)
      (λ m has. no_element (broken (scope_of crates i) m.what) (λ rule breaks. no_fault (fault_at m.line rule) (in_mentioned crates (fault_at m.line rule)
      (among_faults start crates i k at (fault_at m.line rule) (broken_here (scope_of crates i) (mentions_in k) m rule has breaks)))))

  -- a rule that fails at none of the lines, since all faults have these
  no_line : (rule : CrateRule) (lines : List ℕ) → ((f : Fault) → Contains (faults_at rule lines) f → Contains (faults_of crates) f) → lines ≡ []
  no_line rule lines among =
      no_element lines (λ line has. no_fault (fault_at line rule) (among (fault_at line rule) (Contains-map (λ l. fault_at l rule) lines line has)))

  -- names differ that have to
  pub kept_names : doubled crates ≡ []
  kept_names = no_line DoubleName (doubled crates) (in_names crates)

  -- a run can begin
  pub kept_main : bad_main crates ≡ []
  kept_main = no_line BadMain (bad_main crates) (in_mains crates)

  -- no type has two Drop impls
  pub kept_drops : repeated [] (targets_of crates) ≡ []
  kept_drops = no_line BadDropImpl (repeated [] (targets_of crates)) (in_drops crates)
