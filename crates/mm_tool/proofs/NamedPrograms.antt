-- What a text means is a well-formed program with names, whose members are items that symbols tell apart.
use Rattle.std.proofs.Common.{◌≡◌, ℕ, List}
use Rattle.std.proofs.lemmas.List.Elements.{All-weaker}
use Rattle.mm_terms.specs.Closure.{IsMember}
use Rattle.mm_terms.specs.declared.ids.DefId.{DefId}
use Rattle.mm_terms.specs.declared.item.Item.{Item}
use Rattle.mm_plain.specs.Roots.{roots_of}
use Rattle.mm_plain.specs.Uses.{uses_of}
use Rattle.mm_plain.specs.WellFormed.{IsWellFormed}
use Rattle.mm_plain.specs.declared.program.Program.{Program}
use Rattle.mm_collect.proofs.InstanceLemmas.{members_are}
use Rattle.mm_names.specs.Names.{IsName}
use Rattle.mm_load_plain.proofs.ChainLemmas.{IsChain}
use Rattle.mm_load_plain.proofs.PathLemmas.{HavePaths, means_paths}
use Rattle.mm_load_plain.proofs.WellFormedLemmas.{means_well}
use Rattle.mm_symbols.specs.ItemForms.{IsPathText, HasNames, IsItemIn}
use Rattle.mm_symbols.proofs.InstanceItems.{instance_is_item}
use Rattle.mm_tool.specs.Report.{Means}
use Rattle.mm_tool.proofs.Meanings.{tree_written}

path_text : (path : List ℕ) → IsChain path → IsPathText path
path_text path chain = record { names = chain.names; each = record { some = chain.some; each = chain.each }; is = chain.is }

one_id : (c d : DefId) → c.0 ≡ d.0 → c ≡ d
one_id c d same = λ i. record { 0 = same i }

named : (p : Program) → HavePaths p → HasNames p
named p paths = record {
  each = All-weaker (λ f. IsChain f.path) (λ f. IsPathText f.path) (λ f chain. path_text f.path chain) p.functions paths.each;
  one = λ c d low within same. one_id c d (paths.one c.0 d.0 low within same);
}

pub means_well_formed : (text : List ℕ) (p : Program) → Means text p → IsWellFormed p
means_well_formed text p m = means_well m.tree p (tree_written text p m) m.loaded

paths_of : (text : List ℕ) (p : Program) → Means text p → HavePaths p
paths_of text p m = means_paths m.tree p (tree_written text p m) m.loaded

pub means_krate : (text : List ℕ) (p : Program) → Means text p → IsName p.krate
means_krate text p m = (paths_of text p m).krate

pub means_names : (text : List ℕ) (p : Program) → Means text p → HasNames p
means_names text p m = named p (paths_of text p m)

pub members_in : (text : List ℕ) (p : Program) (limit : ℕ) (x : Item) → Means text p → IsMember (roots_of p) (uses_of p limit) x → IsItemIn p x
members_in text p limit x m member = instance_is_item p x (members_are p limit x (means_well_formed text p m) member)
