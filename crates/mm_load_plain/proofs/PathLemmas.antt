-- The paths of the functions of the program that a tree means.
use Rattle.std.proofs.Common.{◌≡◌, ℕ, ◌<◌, length, Some, sym, ◌∙◌, ap, subst}
use Rattle.std.specs.Prelude.{All, slice_get}
use Rattle.std.specs.Option.{option_map}
use Rattle.std.proofs.lemmas.List.{length-map}
use Rattle.std.proofs.lemmas.List.Elements.{All-map}
use Rattle.std.proofs.lemmas.Option.{slice_get-map}
use Rattle.mm_plain.specs.Uses.{function_path}
use Rattle.mm_plain.specs.declared.program.Program.{Program}
use Rattle.mm_names.specs.Names.{IsName}
use Rattle.mm_ast.specs.declared.items.Ast.{Ast}
use Rattle.mm_ast.specs.declared.items.Crate.{Crate}
use Rattle.mm_ast.specs.Written.{IsWritten}
use Rattle.mm_load_plain.specs.declared.rule.Rule.TheVariants.{DoubleName}
use Rattle.mm_load_plain.specs.Meaning.{function_of, function_in, program_in, program_of, IsProgram}
use Rattle.mm_load_plain.specs.Rules.{fails, KeepsIn}
use Rattle.mm_load_plain.specs.WrittenItem.{Defined, functions_of, paths_in, crate_of}
use Rattle.mm_load_plain.proofs.ApartLemmas.{one_index, apart}
use Rattle.mm_load_plain.proofs.ChainLemmas.{IsChain, chains}
use Rattle.mm_load_plain.proofs.KnownLemmas.{found}
use Rattle.mm_load_plain.proofs.WrittenItems.{IsFine, fine_crate}

-- the crate has a name, each path is a chain of names, and no two functions have one path
pub record HavePaths (p : Program) : Type 0 where
  pub krate : IsName p.krate
  pub each : All (λ f. IsChain f.path) p.functions
  pub one : (c d : ℕ) → c < length p.functions → d < length p.functions → function_path (slice_get p.functions c) ≡ function_path (slice_get p.functions d) → c ≡ d

module _ (krate : Crate) (kept : KeepsIn krate) (fine : IsFine krate) where
  krate_named : IsName (program_of krate).krate
  unfolding program_in
  krate_named = fine.written.named

  each_chain : All (λ f. IsChain f.path) (program_of krate).functions
  unfolding program_in function_in
  each_chain = All-map (λ f. IsChain f.path) (function_of (paths_in krate)) (functions_of krate) (λ k d within. chains krate fine k d within)

  path_at : (c : ℕ) (d : Defined) → slice_get (functions_of krate) c ≡ Some d → function_path (slice_get (program_of krate).functions c) ≡ d.path
  unfolding program_in function_in
  path_at c d at = ap function_path (slice_get-map (function_of (paths_in krate)) (functions_of krate) c ∙ ap (option_map (function_of (paths_in krate))) at)

  as_many : length (program_of krate).functions ≡ length (functions_of krate)
  unfolding program_in
  as_many = length-map (functions_of krate) (function_of (paths_in krate))

  one_each : (c d : ℕ) → c < length (program_of krate).functions → d < length (program_of krate).functions → function_path (slice_get (program_of krate).functions c) ≡ function_path (slice_get (program_of krate).functions d) → c ≡ d
  unfolding fails
  one_each c d low within same =
      let first = found (functions_of krate) c (subst (λ n. c < n) as_many low) in
      let second = found (functions_of krate) d (subst (λ n. d < n) as_many within) in
      one_index (functions_of krate) (apart krate fine (kept DoubleName)) c d first.0 second.0 first.1 second.1
      (sym (path_at c first.0 first.1) ∙ same ∙ path_at d second.0 second.1)

pub means_paths : (tree : Ast) (p : Program) → IsWritten tree → IsProgram tree p → HavePaths p
means_paths tree p written is =
    let krate = crate_of tree in
    let fine = fine_crate tree written is.built in
    subst HavePaths (sym is.means) (record { krate = krate_named krate is.kept fine; each = each_chain krate is.kept fine; one = one_each krate is.kept fine })
