-- The path of each function is a chain of names.
use Rattle.std.proofs.Common.{◌≡◌, ◌≢◌, ℕ, List, [], ◌∷◌, ◌++◌, refl, sym, ◌∙◌, ap, append_assoc, append-nil, codes}
use Rattle.std.specs.Prelude.{All}
use Rattle.std.specs.List.{flat_map, join_by}
use Rattle.std.proofs.lemmas.List.Elements.{All-nil, All-cons, All-append}
use Rattle.std.proofs.lemmas.List.Concat.{flat_map-append}
use Rattle.mm_names.specs.Names.{IsName}
use Rattle.mm_ast.specs.declared.items.Crate.{Crate}
use Rattle.mm_load_plain.specs.WrittenItem.{path_in, functions_of}
use Rattle.mm_load_plain.proofs.DefinedLemmas.{defined_all}
use Rattle.mm_load_plain.proofs.WrittenItems.{IsFine}

-- one name or more, joined by ::
pub record IsChain (path : List ℕ) : Type 0 where
  pub names : List (List ℕ)
  pub some : names ≢ []
  pub each : All IsName names
  pub is : path ≡ join_by (λ name. name) (codes "::") names

chain_one : (name : List ℕ) → IsName name → IsChain name
chain_one name named = record {
  names = name ∷ [];
  some = λ none. cc;
  each = All-cons IsName name [] named (All-nil IsName);
  is = sym (append-nil name);
}

-- a name behind others is joined to them
behind : (prefix : List (List ℕ)) (name : List ℕ) → prefix ≢ [] → join_by (λ name. name) (codes "::") (prefix ++ name ∷ []) ≡ path_in (join_by (λ name. name) (codes "::") prefix) name
behind [] name some = absurd (some refl)
behind (first ∷ prefix) name some =
    let rest : List ℕ = flat_map (λ name. codes "::" ++ name) prefix in
    ap (λ more. first ++ more) (flat_map-append (λ name. codes "::" ++ name) prefix (name ∷ []) ∙ ap (λ last. rest ++ last) (append-nil (codes "::" ++ name)))
    ∙ sym (append_assoc first rest (codes "::" ++ name))
    ∙ sym (append_assoc (first ++ rest) (codes "::") name)

no_end : (prefix : List (List ℕ)) (name : List ℕ) → prefix ++ name ∷ [] ≢ []
no_end [] name none = cc
no_end (first ∷ prefix) name none = cc

chain_more : (prefix name : List ℕ) → IsChain prefix → IsName name → IsChain (path_in prefix name)
chain_more prefix name chain named = record {
  names = chain.names ++ name ∷ [];
  some = no_end chain.names name;
  each = All-append IsName chain.names (name ∷ []) chain.each (All-cons IsName name [] named (All-nil IsName));
  is = ap (λ path. path_in path name) chain.is ∙ sym (behind chain.names name chain.some);
}

-- in a crate that is written and built
pub chains : (krate : Crate) → IsFine krate → All (λ d. IsChain d.path) (functions_of krate)
chains krate fine =
    λ k d within. (defined_all IsChain chain_more krate fine (chain_one krate.name.text fine.written.named) k d within).0
