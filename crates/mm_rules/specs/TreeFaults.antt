-- The faults of a whole tree, and which is the first.
use Rattle.std.specs.Prelude.{◌≡◌, ℕ, ◌+◌, List, [], ◌∷◌, ◌++◌, map, flat_map, take}
use Rattle.mm_ast.specs.declared.items.Ast.{Ast}
use Rattle.mm_ast.specs.declared.items.Crate.{Crate}
use Rattle.mm_ast.specs.declared.names.Name.{Name}
use Rattle.mm_definitions.specs.Definitions.{definitions_in}
use Rattle.mm_definitions.specs.Placed.{count_in}
use Rattle.mm_definitions.specs.declared.named.Named.{Named}
use Rattle.mm_mentions.specs.ItemMentions.{mentions_in}
use Rattle.mm_resolve.specs.Doubles.{repeated, doubled}
use Rattle.mm_resolve.specs.Scopes.{Scope, next}
use Rattle.mm_rules.specs.declared.fault.CrateRule.{CrateRule}
use Rattle.mm_rules.specs.declared.fault.CrateRule.TheVariants.{DoubleName, BadMain, BadDropImpl}
use Rattle.mm_rules.specs.declared.fault.Fault.{Fault}
use Rattle.mm_rules.specs.DropTargets.{targets_in}
use Rattle.mm_rules.specs.Faults.{IsFirst}
use Rattle.mm_rules.specs.MainRule.{bad_main}
use Rattle.mm_rules.specs.MentionRules.{fault_at, faults_in}

-- how far the crates of a text are gone through: how many definitions they have, and the scope of the last one
pub record Reached : Type 0 where
  pub count : ℕ
  pub scope : Scope

-- before the first crate nothing is defined
abbrev pub start : Reached
start = record { count = 0; scope = record { earlier = []; own = [] } }

-- one crate more, whose definitions are numbered behind all before
abbrev pub entered : Reached → Crate → Reached
entered reached krate = record { count = reached.count + count_in krate; scope = next reached.scope (definitions_in reached.count krate) }

-- all of these crates
abbrev pub behind : Reached → List Crate → Reached
behind reached [] = reached
behind reached (k ∷ ks) = behind (entered reached k) ks

-- the scope in which the crate at an index stands
abbrev pub scope_of : List Crate → ℕ → Scope
scope_of crates i = (behind start (take (i + 1) crates)).scope

-- what crates define, each for itself
abbrev pub all_defined : Reached → List Crate → List (List Named)
all_defined reached [] = []
all_defined reached (k ∷ ks) = definitions_in reached.count k ∷ all_defined (entered reached k) ks

-- the faults of what crates mention, of each in its own scope
abbrev pub faults_behind : Reached → List Crate → List Fault
faults_behind reached [] = []
faults_behind reached (k ∷ ks) = faults_in (entered reached k).scope (mentions_in k) ++ faults_behind (entered reached k) ks

-- the types that the Drop impls of crates are for, in order of the text
abbrev pub targets_of : List Crate → List Name
targets_of crates = flat_map (λ k. targets_in (mentions_in k)) crates

-- the lines at which a rule fails
abbrev pub faults_at : CrateRule → List ℕ → List Fault
faults_at rule lines = map (λ line. fault_at line rule) lines

-- all faults of a text; of two Drop impls of one type the second one is the place
unfoldable pub faults_of : List Crate → List Fault
faults_of crates =
    faults_behind start crates
    ++ faults_at DoubleName (doubled crates)
    ++ faults_at BadMain (bad_main crates)
    ++ faults_at BadDropImpl (repeated [] (targets_of crates))

-- a tree has no fault
abbrev pub KeepsRules : Ast → Type 0
KeepsRules tree = faults_of tree.crates ≡ []

-- the fault that is reported of a tree
abbrev pub IsFirstFault : Ast → Fault → Type 0
IsFirstFault tree fault = IsFirst (faults_of tree.crates) fault
