-- The rule on the function with which a run begins.
use Rattle.std.specs.Prelude.{ℕ, List, [], ◌++◌, flat_map, codes, Bool, false, not, ◌&&◌, nat_eq, length, ◌-◌}
use Rattle.std.specs.List.{list_any, slice_get}
use Rattle.std.specs.Option.{option_map_or}
use Rattle.std.specs.Str.{bytes_eq}
use Rattle.mm_ast.specs.declared.items.Crate.{Crate}
use Rattle.mm_ast.specs.declared.items.DefinitionForm.{DefinitionForm}
use Rattle.mm_ast.specs.declared.items.DefinitionForm.TheVariants as definitions
use Rattle.mm_ast.specs.declared.items.Function.{Function}
use Rattle.mm_ast.specs.declared.items.Item.{Item}
use Rattle.mm_ast.specs.declared.items.Item.TheViews.{out-Item}
use Rattle.mm_ast.specs.declared.items.ItemForm.{ItemForm}
use Rattle.mm_ast.specs.declared.items.ItemForm.TheVariants as forms
use Rattle.mm_resolve.specs.Doubles.{line_if}

-- a function with which a run can begin: it has neither type parameters nor parameters, and is not `inline`
abbrev pub is_entry : Function → Bool
is_entry f = nat_eq (length f.type_params) 0 && nat_eq (length f.signature.params) 0 && not f.is_inline

abbrev pub is_called_main : Function → Bool
is_called_main f = bytes_eq f.name.text (codes "main")

abbrev pub of_function : (Function → Bool) → DefinitionForm → Bool
of_function test (definitions.Function f) = test f
of_function test _ = false

-- a function of which the test holds
abbrev pub is_function : (Function → Bool) → ItemForm → Bool
is_function test (forms.Definition definition) = of_function test definition.form
is_function test _ = false

-- a function `main`
abbrev pub is_main : Item → Bool
is_main item = is_function is_called_main (out-Item item).form

-- a function `main` with which no run can begin, at its line
abbrev pub bad_entry : Item → List ℕ
bad_entry item = line_if (is_function (λ f. is_called_main f && not (is_entry f)) (out-Item item).form) (out-Item item).line

-- each such function at the top of a crate; the word `crate` where no function there is called `main`
unfoldable pub bad_main_in : Crate → List ℕ
bad_main_in krate = flat_map bad_entry krate.items ++ line_if (not (list_any is_main krate.items)) krate.line

-- the last crate is asked
abbrev pub bad_main : List Crate → List ℕ
bad_main crates = option_map_or bad_main_in (slice_get crates (length crates - 1)) []
