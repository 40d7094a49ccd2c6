-- What is wrong with tokens that are no text, and where.
use Rattle.std.specs.Prelude.{◌≡◌, List, [], ◌∷◌, ◌++◌, Result, Ok, Err}
use Rattle.mm_forms.specs.Forms.{◌>>=◌, Read}
use Rattle.mm_forms.specs.declared.fault.Fault.{Fault}
use Rattle.mm_forms.specs.declared.fault.Fault.TheVariants.{Unfit, TooMany, TooDeep}

module _ {T A : Type 0} (whole : A → List T → Type 0) (past_limit : Fault → List T → Type 0) where
  -- some continuation makes a text of these tokens, whatever the limits
  pub record GoesOn (front : List T) : Type 0 where
    pub thing : A
    pub behind : List T
    pub is_whole : whole thing (front ++ behind)

  -- no text begins with these tokens and the first of the rest; where there is no rest, these tokens are no text
  abbrev pub EndsThere : List T → List T → Type 0
  EndsThere front [] = (thing : A) → whole thing front → ⊥
  EndsThere front (t ∷ rest) = (thing : A) (behind : List T) → whole thing (front ++ t ∷ behind) → ⊥

  -- The first token of the rest, or the end, is the first that no continuation allows, and nothing before goes past a limit.
  pub record IsUnfit (ts rest : List T) : Type 0 where
    pub front : List T
    pub is : ts ≡ front ++ rest
    pub can : GoesOn front
    pub cannot : EndsThere front rest
    pub kept : (begin end' : List T) (x : Fault) → front ≡ begin ++ end' → past_limit x begin → ⊥

  -- The first token of the rest goes past a limit.
  pub record IsPast (x : Fault) (ts rest : List T) : Type 0 where
    pub front : List T
    pub token : T
    pub behind : List T
    pub is : ts ≡ front ++ token ∷ behind
    pub rest_is : rest ≡ token ∷ behind
    pub past : past_limit x (front ++ token ∷ [])

  abbrev pub IsFault : Fault → List T → List T → Type 0
  IsFault Unfit ts rest = IsUnfit ts rest
  IsFault TooMany ts rest = IsPast TooMany ts rest
  IsFault TooDeep ts rest = IsPast TooDeep ts rest

abbrev pub only_if_done : {T A : Type 0} → List T → A → Result A (Fault × List T)
only_if_done [] a = Ok a
only_if_done (t ∷ ts) a = Err (Unfit, t ∷ ts)

-- what is read, where it is all of the tokens
abbrev pub whole_in : {T A : Type 0} → Read T A → Result A (Fault × List T)
whole_in read = read >>= λ x. only_if_done x.1 x.0
