-- The rules on what a crate mentions: which of them each mention breaks.
use Rattle.std.specs.Prelude.{ℕ, List, [], ◌∷◌, ◌++◌, map, flat_map, Bool, true, false, not, ◌&&◌, nat_eq, nat_lt, Option, None, Some, is_none}
use Rattle.std.specs.Option.{option_map_or}
use Rattle.mm_mentions.specs.declared.mention.Mention.{Mention}
use Rattle.mm_mentions.specs.declared.mention.PathMention.{PathMention}
use Rattle.mm_mentions.specs.declared.mention.What.{What}
use Rattle.mm_mentions.specs.declared.mention.What.TheVariants as what
use Rattle.mm_definitions.specs.declared.kinds.Kind.TheVariants.{Variant, Trait}
use Rattle.mm_definitions.specs.declared.named.Named.{Named}
use Rattle.mm_definitions.specs.declared.kinds.Wanted.{Wanted}
use Rattle.mm_definitions.specs.declared.kinds.Wanted.TheVariants.{One}
use Rattle.mm_resolve.specs.Resolving.{first_of}
use Rattle.mm_resolve.specs.Scopes.{Scope, visible, found, leads_to}
use Rattle.mm_rules.specs.declared.fault.CrateRule.{CrateRule}
use Rattle.mm_rules.specs.declared.fault.CrateRule.TheVariants.{UnknownName, PrivateName, WrongArity, FreeParam, BadDropImpl, Orphan, NotDyn, LongType}
use Rattle.mm_rules.specs.declared.fault.Fault.{Fault}

-- the definition that a path may name
abbrev pub names : Scope → Wanted → List ℕ → Option Named
names scope wanted path = found (first_of (visible scope)) wanted path

-- where no operands are written, any number fits
abbrev pub operands_fit : Option ℕ → ℕ → Bool
operands_fit None n = true
operands_fit (Some m) n = nat_eq m n

-- there is a type argument for each type parameter, and an operand for each that is taken
abbrev pub fits : PathMention → Named → Bool
fits p d = nat_eq p.type_args d.type_params && operands_fit p.operands d.operands

-- the rule, where something fails
abbrev pub rule_if : Bool → CrateRule → List CrateRule
rule_if true rule = rule ∷ []
rule_if false rule = []

-- what is said of the definition that a path leads to fails of it; where it leads to none, another rule fails
abbrev pub fails_of : Option Named → (Named → Bool) → Bool
fails_of def test = option_map_or (λ d. not (test d)) def false

-- the rules that a path breaks
abbrev pub broken_path : Scope → PathMention → List CrateRule
broken_path scope p =
    rule_if (is_none (leads_to scope p.wanted p.path)) UnknownName
    ++ rule_if (is_none (names scope p.wanted p.path)) PrivateName
    ++ rule_if (fails_of (leads_to scope p.wanted p.path) (fits p)) WrongArity

-- the rules that a mention breaks
abbrev pub broken : Scope → What → List CrateRule
broken scope (what.Path p) = broken_path scope p
broken scope (what.Fields f) = rule_if (fails_of (leads_to scope (One Variant) f.path) (λ d. nat_eq f.operands d.operands)) WrongArity
broken scope (what.Scoped is_known) = rule_if (not is_known) UnknownName
broken scope (what.Callable n) = rule_if (nat_eq n 0) WrongArity
broken scope (what.Dyn path) = rule_if (fails_of (leads_to scope (One Trait) path) (λ d. d.is_dyn_compatible)) NotDyn
broken scope (what.«Type» length) = rule_if (nat_lt 2048 length) LongType
broken scope (what.ImplParam occurs) = rule_if (not occurs) FreeParam
broken scope (what.Head is_local) = rule_if (not is_local) Orphan
broken scope (what.DropTarget fits) = rule_if (not fits) BadDropImpl
broken scope (what.DropImpl path) = []

abbrev pub fault_at : ℕ → CrateRule → Fault
fault_at line rule = record { rule = rule; line = line }

-- the faults at one line
abbrev pub at_line : ℕ → List CrateRule → List Fault
at_line line rules = map (fault_at line) rules

-- the faults of what is mentioned
unfoldable pub faults_in : Scope → List Mention → List Fault
faults_in scope mentions = flat_map (λ m. at_line m.line (broken scope m.what)) mentions
