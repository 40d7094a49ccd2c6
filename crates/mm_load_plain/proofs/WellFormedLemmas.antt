-- What a text means is a well-formed program.
use Rattle.std.proofs.Common.{map, get_or, refl, sym, subst}
use Rattle.std.specs.Prelude.{All, ⊤}
use Rattle.std.proofs.lemmas.List.Elements.{All-map}
use Rattle.mm_plain.specs.declared.program.Program.{Program}
use Rattle.mm_plain.specs.WellFormed.{IsFunctionIn, HasMain, IsWellFormed}
use Rattle.mm_ast.specs.declared.items.Ast.{Ast}
use Rattle.mm_ast.specs.declared.items.Crate.{Crate}
use Rattle.mm_ast.specs.Written.{IsWritten}
use Rattle.mm_load_plain.specs.declared.rule.Rule.TheVariants.{UnknownName, WrongArity, BadMain}
use Rattle.mm_load_plain.specs.Meaning.{function_of, program_in, program_of, IsProgram}
use Rattle.mm_load_plain.specs.Rules.{fails, KeepsIn, unknown_in_functions, unknown_in_function, misfits_in_functions, misfits_in_function}
use Rattle.mm_load_plain.specs.WrittenItem.{functions_of, paths_in, crate_of}
use Rattle.mm_load_plain.proofs.DefinedLemmas.{defined_all}
use Rattle.mm_load_plain.proofs.KeptLemmas.{none_each}
use Rattle.mm_load_plain.proofs.KnownLemmas.{known_function, known_main}
use Rattle.mm_load_plain.proofs.WrittenItems.{IsFine, fine_crate}

module _ (krate : Crate) (kept : KeepsIn krate) (fine : IsFine krate) where
  well_main : HasMain (program_of krate)
  unfolding fails program_in
  well_main = known_main (program_of krate) (functions_of krate) refl krate (kept BadMain) refl

  well_functions : All (IsFunctionIn (program_of krate)) (map (function_of (paths_in krate)) (functions_of krate))
  unfolding fails program_in unknown_in_functions misfits_in_functions
  well_functions =
      let defined = defined_all (λ path. ⊤) (λ prefix name is named. tt) krate fine tt in
      let known = none_each (λ d. unknown_in_function (paths_in krate) d.function) (functions_of krate) (kept UnknownName) in
      let fitting = none_each (λ d. misfits_in_function (paths_in krate) (functions_of krate) d.function) (functions_of krate) (kept WrongArity) in
      All-map (IsFunctionIn (program_of krate)) (function_of (paths_in krate)) (functions_of krate)
      (λ k d within. known_function (program_of krate) (functions_of krate) refl (get_or (functions_of krate) k d) (defined k d within).1 (known k d within) (fitting k d within))

  well_formed : IsWellFormed (program_of krate)
  unfolding program_in
  well_formed = record { main = well_main; functions = well_functions }

pub means_well : (tree : Ast) (p : Program) → IsWritten tree → IsProgram tree p → IsWellFormed p
means_well tree p written is = subst IsWellFormed (sym is.means) (well_formed (crate_of tree) is.kept (fine_crate tree written is.built))
