-- Which options words give, and that they mean one command.
use Rattle.std.proofs.Common.{◌≡◌, ℕ, zero, suc, ◌^◌, ◌<◌, ◌≤◌, ◌+◌, ◌⊎◌, inl, inr, cond, eqb, List, [], ◌∷◌, ◌++◌, map, length, get_or, take, drop, Bor, Some, None, refl, sym, ap, ◌∙◌, subst, arith, codes}
use Rattle.std.specs.declared.option.Option.{Option}
use Rattle.std.specs.Prelude.{IsPermutation, IfSome, decimal, unwrap_or}
use Rattle.std.specs.List.{Contains, sum_by}
use Rattle.std.proofs.lemmas.Fmt.{decimal_injective}
use Rattle.std.proofs.lemmas.List.{append-nil, append_cancel_left, map-append, take-append-drop, drop_more}
use Rattle.std.proofs.lemmas.List.Elements.{Contains-append_left, Contains-append_right, Contains-append_cases}
use Rattle.std.proofs.lemmas.List.Sums.{sum_by-append, sum_by-cons}
use Rattle.std.proofs.lemmas.List.Sorted.{IsPermutation-sym, IsPermutation-trans, IsPermutation-cons, IsPermutation-to_front, IsPermutation-append_left, Contains-permutation, sum_by-IsPermutation}
use Rattle.mm_plain.specs.declared.program.Opts.{Opts}
use Rattle.mm_tool.specs.declared.words.Command.{Command}
use Rattle.mm_tool.specs.declared.words.Command.TheVariants as command
use Rattle.mm_tool.specs.declared.limits.Given.{Given}
use Rattle.mm_tool.specs.Words.{option_word, option_words, IsUpTo, AreLimits, AreSteps, AreWords}
use Rattle.mm_tool.specs.WordReading.{IsOption, Adds, Give}

-- no word is of both options
pub apart : (m n : ℕ) → codes "--length=" ++ decimal m ≡ codes "--items=" ++ decimal n → ⊥
apart m n h = let third : 108 ≡ 105 = ap (λ w. get_or w 2 0) h in absurd (omega (arith, third))

-- an option that a word gives is one more
added_length : (given : Given) (done : List (List ℕ)) (word : List ℕ) (n : ℕ) → Give done given → IsOption (codes "--length=") 2048 word n → given.length ≡ None → Give (done ++ word ∷ []) (record { length = Some n; items = given.items })
added_length given done word n gives option new =
    let others = option_word (codes "--items=") given.items in
    let before : IsPermutation others done = subst (λ l. IsPermutation (option_words l given.items) done) new gives.0 in
    let behind = IsPermutation-sym (done ++ word ∷ []) (word ∷ done) (IsPermutation-to_front done word) in
    let all = IsPermutation-trans (word ∷ others) (word ∷ done) (done ++ word ∷ []) (IsPermutation-cons word others done before) behind in
    (subst (λ w. IsPermutation (w ∷ others) (done ++ word ∷ [])) option.0 all, (option.1, option.2), gives.2)

added_items : (given : Given) (done : List (List ℕ)) (word : List ℕ) (n : ℕ) → Give done given → IsOption (codes "--items=") 131072 word n → given.items ≡ None → Give (done ++ word ∷ []) (record { length = given.length; items = Some n })
added_items given done word n gives option new =
    let others = option_word (codes "--length=") given.length in
    let with_none : IsPermutation (others ++ []) done = subst (λ l. IsPermutation (option_words given.length l) done) new gives.0 in
    let before : IsPermutation others done = subst (λ xs. IsPermutation xs done) (append-nil others) with_none in
    let all = IsPermutation-append_left (word ∷ []) others done before in
    (subst (λ w. IsPermutation (others ++ w ∷ []) (done ++ word ∷ [])) option.0 all, gives.1, (option.1, option.2))

pub added : (given more : Given) (done : List (List ℕ)) (word : List ℕ) → Give done given → Adds given word more → Give (done ++ word ∷ []) more
added given more done word gives (inl a) = subst (Give (done ++ word ∷ [])) (sym a.3) (added_length given done word a.0 gives a.1 a.2)
added given more done word gives (inr a) = subst (Give (done ++ word ∷ [])) (sym a.3) (added_items given done word a.0 gives a.1 a.2)

only_at : (k : ℕ) (x y : List ℕ) → k < 1 → get_or (x ∷ []) k y ≡ y → y ≡ x
only_at zero x y within is = sym is
only_at (suc k) x y within is = absurd (omega (arith, within))

-- a word among those of an option gives its number
abbrev Says : List ℕ → Option ℕ → List ℕ → Type 0
Says name given word = (n : ℕ) × (given ≡ Some n) × (word ≡ name ++ decimal n)

said : (name : List ℕ) (given : Option ℕ) (word : List ℕ) → Contains (option_word name given) word → Says name given word
said name None word here = absurd (omega (arith, here.1))
said name (Some n) word here = (n, refl, only_at here.0 (name ++ decimal n) word here.1 here.2)

-- one where the word is of the option whose third byte is c
abbrev of_kind : ℕ → List ℕ → ℕ
of_kind c word = cond (eqb (get_or word 2 0) c) 1 0

abbrev count : Option ℕ → ℕ
count None = 0
count (Some n) = 1

count-le : (given : Option ℕ) → count given ≤ 1
count-le None = omega arith
count-le (Some n) = omega arith

lengths : (length items : Option ℕ) → sum_by (of_kind 108) (option_words length items) ≡ count length
lengths None None = refl
lengths None (Some n) = refl
lengths (Some m) None = refl
lengths (Some m) (Some n) = refl

items_of : (length items : Option ℕ) → sum_by (of_kind 105) (option_words length items) ≡ count items
items_of None None = refl
items_of None (Some n) = refl
items_of (Some m) None = refl
items_of (Some m) (Some n) = refl

-- a second word of a kind is one too many
crowded : (c : ℕ) (done rest : List (List ℕ)) (word : List ℕ) → of_kind c word ≡ 1 → 1 ≤ sum_by (of_kind c) done → sum_by (of_kind c) (done ++ word ∷ rest) ≤ 1 → ⊥
crowded c done rest word kind before all = omega (arith, sum_by-append (of_kind c) done (word ∷ rest), sum_by-cons (of_kind c) word rest, kind, before, all)

abbrev NoneAdded : Given → List ℕ → Type 0
NoneAdded given word = (more : Given) → Adds given word more → ⊥

twice_length : (given : Given) (g length items : Option ℕ) (done rest : List (List ℕ)) (word : List ℕ) → given.length ≡ g → Give done given → NoneAdded given word → IsPermutation (option_words length items) (done ++ word ∷ rest) → IsUpTo 2048 length → Says (codes "--length=") length word → ⊥
twice_length given None length items done rest word is gives none all up says =
    let within : IsUpTo 2048 (Some says.0) = subst (IsUpTo 2048) says.1 up in
    none (record { length = Some says.0; items = given.items }) (inl (says.0, (says.2, within.0, within.1), is, refl))
twice_length given (Some m) length items done rest word is gives none all up says =
    let one : of_kind 108 word ≡ 1 = ap (of_kind 108) says.2 in
    let before : sum_by (of_kind 108) done ≡ count (Some m) = sum_by-IsPermutation (of_kind 108) (option_words given.length given.items) done gives.0 ∙ lengths given.length given.items ∙ ap count is in
    let whole : sum_by (of_kind 108) (done ++ word ∷ rest) ≡ count length = sum_by-IsPermutation (of_kind 108) (option_words length items) (done ++ word ∷ rest) all ∙ lengths length items in
    crowded 108 done rest word one (omega (arith, before)) (omega (arith, whole, count-le length))

twice_items : (given : Given) (g length items : Option ℕ) (done rest : List (List ℕ)) (word : List ℕ) → given.items ≡ g → Give done given → NoneAdded given word → IsPermutation (option_words length items) (done ++ word ∷ rest) → IsUpTo 131072 items → Says (codes "--items=") items word → ⊥
twice_items given None length items done rest word is gives none all up says =
    let within : IsUpTo 131072 (Some says.0) = subst (IsUpTo 131072) says.1 up in
    none (record { length = given.length; items = Some says.0 }) (inr (says.0, (says.2, within.0, within.1), is, refl))
twice_items given (Some m) length items done rest word is gives none all up says =
    let one : of_kind 105 word ≡ 1 = ap (of_kind 105) says.2 in
    let before : sum_by (of_kind 105) done ≡ count (Some m) = sum_by-IsPermutation (of_kind 105) (option_words given.length given.items) done gives.0 ∙ items_of given.length given.items ∙ ap count is in
    let whole : sum_by (of_kind 105) (done ++ word ∷ rest) ≡ count items = sum_by-IsPermutation (of_kind 105) (option_words length items) (done ++ word ∷ rest) all ∙ items_of length items in
    crowded 105 done rest word one (omega (arith, before)) (omega (arith, whole, count-le items))

refused_by : (given : Given) (length items : Option ℕ) (done rest : List (List ℕ)) (word : List ℕ) → Give done given → NoneAdded given word → IsPermutation (option_words length items) (done ++ word ∷ rest) → IsUpTo 2048 length → IsUpTo 131072 items → Contains (option_word (codes "--length=") length) word ⊎ Contains (option_word (codes "--items=") items) word → ⊥
refused_by given length items done rest word gives none all length_is items_is (inl here) = twice_length given given.length length items done rest word refl gives none all length_is (said (codes "--length=") length word here)
refused_by given length items done rest word gives none all length_is items_is (inr here) = twice_items given given.items length items done rest word refl gives none all items_is (said (codes "--items=") items word here)

-- words with one that is no new option are no limits
pub refused : (given : Given) (done rest : List (List ℕ)) (word : List ℕ) → Give done given → NoneAdded given word → (opts : Opts) → AreLimits (done ++ word ∷ rest) opts → ⊥
refused given done rest word gives none opts a =
    let among : Contains (done ++ word ∷ rest) word = Contains-append_right done (word ∷ rest) word (0, omega arith, refl) in
    let here = Contains-permutation (done ++ word ∷ rest) (option_words a.length a.items) word (IsPermutation-sym (option_words a.length a.items) (done ++ word ∷ rest) a.any_order) among in
    refused_by given a.length a.items done rest word gives none a.any_order a.length_is a.items_is (Contains-append_cases (option_word (codes "--length=") a.length) (option_word (codes "--items=") a.items) word here)

-- a number is reported from its option's word
same_number : (name : List ℕ) (most m n : ℕ) (given : Option ℕ) → most < 2 ^ 64 → m ≤ most → IsUpTo most given → given ≡ Some n → name ++ decimal m ≡ name ++ decimal n → given ≡ Some m
same_number name most m n given small within up is same =
    let bounds : IsUpTo most (Some n) = subst (IsUpTo most) is up in
    let equal : m ≡ n = decimal_injective m n (omega arith) (omega (arith, bounds.1)) (append_cancel_left name (decimal m) (decimal n) same) in
    is ∙ ap Some (sym equal)

length_in : (length items : Option ℕ) (n : ℕ) → n ≤ 2048 → IsUpTo 2048 length → Contains (option_word (codes "--length=") length) (codes "--length=" ++ decimal n) ⊎ Contains (option_word (codes "--items=") items) (codes "--length=" ++ decimal n) → length ≡ Some n
length_in length items n within up (inl here) =
    let says = said (codes "--length=") length (codes "--length=" ++ decimal n) here in
    same_number (codes "--length=") 2048 n says.0 length (omega arith) within up says.1 says.2
length_in length items n within up (inr here) =
    let says = said (codes "--items=") items (codes "--length=" ++ decimal n) here in
    absurd (apart n says.0 says.2)

items_in : (length items : Option ℕ) (n : ℕ) → n ≤ 131072 → IsUpTo 131072 items → Contains (option_word (codes "--length=") length) (codes "--items=" ++ decimal n) ⊎ Contains (option_word (codes "--items=") items) (codes "--items=" ++ decimal n) → items ≡ Some n
items_in length items n within up (inl here) =
    let says = said (codes "--length=") length (codes "--items=" ++ decimal n) here in
    absurd (apart says.0 n (sym says.2))
items_in length items n within up (inr here) =
    let says = said (codes "--items=") items (codes "--items=" ++ decimal n) here in
    same_number (codes "--items=") 131072 n says.0 items (omega arith) within up says.1 says.2

-- an option that some words give, the same words in another order give
length_kept : (l i m j : Option ℕ) → IsPermutation (option_words l i) (option_words m j) → IsUpTo 2048 l → IsUpTo 2048 m → (n : ℕ) → l ≡ Some n → m ≡ Some n
length_kept l i m j moved up other n is =
    let word = codes "--length=" ++ decimal n in
    let bounds : IsUpTo 2048 (Some n) = subst (IsUpTo 2048) is up in
    let first : Contains (option_word (codes "--length=") l) word = subst (λ g. Contains (option_word (codes "--length=") g) word) (sym is) (0, omega arith, refl) in
    let here = Contains-permutation (option_words l i) (option_words m j) word moved (Contains-append_left (option_word (codes "--length=") l) (option_word (codes "--items=") i) word first) in
    length_in m j n bounds.1 other (Contains-append_cases (option_word (codes "--length=") m) (option_word (codes "--items=") j) word here)

items_kept : (l i m j : Option ℕ) → IsPermutation (option_words l i) (option_words m j) → IsUpTo 131072 i → IsUpTo 131072 j → (n : ℕ) → i ≡ Some n → j ≡ Some n
items_kept l i m j moved up other n is =
    let word = codes "--items=" ++ decimal n in
    let bounds : IsUpTo 131072 (Some n) = subst (IsUpTo 131072) is up in
    let second : Contains (option_word (codes "--items=") i) word = subst (λ g. Contains (option_word (codes "--items=") g) word) (sym is) (0, omega arith, refl) in
    let here = Contains-permutation (option_words l i) (option_words m j) word moved (Contains-append_right (option_word (codes "--length=") l) (option_word (codes "--items=") i) word second) in
    items_in m j n bounds.1 other (Contains-append_cases (option_word (codes "--length=") m) (option_word (codes "--items=") j) word here)

same_option : (a b : Option ℕ) → ((n : ℕ) → a ≡ Some n → b ≡ Some n) → ((n : ℕ) → b ≡ Some n → a ≡ Some n) → a ≡ b
same_option None None to from = refl
same_option None (Some n) to from = from n refl
same_option (Some n) b to from = sym (to n refl)

abbrev limits_of : Option ℕ → Option ℕ → Opts
limits_of length items = record { length = unwrap_or length 512; items = unwrap_or items 20000 }

pub limits_one : (options : List (List ℕ)) (one other : Opts) → AreLimits options one → AreLimits options other → one ≡ other
limits_one options one other a b =
    let xs = option_words a.length a.items in
    let ys = option_words b.length b.items in
    let there = IsPermutation-trans xs options ys a.any_order (IsPermutation-sym ys options b.any_order) in
    let back = IsPermutation-sym xs ys there in
    let length : a.length ≡ b.length = same_option a.length b.length (length_kept a.length a.items b.length b.items there a.length_is b.length_is) (length_kept b.length b.items a.length a.items back b.length_is a.length_is) in
    let items : a.items ≡ b.items = same_option a.items b.items (items_kept a.length a.items b.length b.items there a.items_is b.items_is) (items_kept b.length b.items a.length a.items back b.items_is a.items_is) in
    a.is ∙ ap (λ l. limits_of l a.items) length ∙ ap (limits_of b.length) items ∙ sym b.is

same_steps : (g h : Option ℕ) → IfSome g (λ n. n ≤ 10000000) → IfSome h (λ n. n ≤ 10000000) → option_word (codes "--steps=") g ≡ option_word (codes "--steps=") h → g ≡ h
same_steps None None small other same = refl
same_steps None (Some n) small other same = absurd (omega (arith, ap length same))
same_steps (Some m) None small other same = absurd (omega (arith, ap length same))
same_steps (Some m) (Some n) small other same =
    let words : codes "--steps=" ++ decimal m ≡ codes "--steps=" ++ decimal n = ap (λ ws. get_or ws 0 []) same in
    ap Some (decimal_injective m n (omega (arith, small)) (omega (arith, other)) (append_cancel_left (codes "--steps=") (decimal m) (decimal n) words))

pub steps_one : (options : List (List ℕ)) (m n : ℕ) → AreSteps options m → AreSteps options n → m ≡ n
steps_one options m n a b = a.is ∙ ap (λ g. unwrap_or g 1000000) (same_steps a.given b.given a.within b.within (sym a.are ∙ b.are)) ∙ sym b.is

-- the options behind a command
same_options : (name : List ℕ) (words xs ys : List (List ℕ)) → words ≡ name ∷ xs → words ≡ name ∷ ys → ys ≡ xs
same_options name words xs ys a b = ap (drop 1) (sym b ∙ a)

-- two commands with names that differ in a byte
two_names : (k : ℕ) (name other : List ℕ) (words xs ys : List (List ℕ)) → words ≡ name ∷ xs → words ≡ other ∷ ys → get_or name k 0 ≡ get_or other k 0
two_names k name other words xs ys a b = ap (λ ws. get_or (get_or ws 0 []) k 0) (sym a ∙ b)

pub command_one : (words : List (List ℕ)) (one other : Command) → AreWords words one → AreWords words other → one ≡ other
command_one words (command.List m) (command.List n) a b = ap command.List (limits_one a.0 m n a.2 (subst (λ os. AreLimits os n) (same_options (codes "list") words a.0 b.0 a.1 b.1) b.2))
command_one words (command.Build m) (command.Build n) a b = ap command.Build (limits_one a.0 m n a.2 (subst (λ os. AreLimits os n) (same_options (codes "build") words a.0 b.0 a.1 b.1) b.2))
command_one words (command.Link m) (command.Link n) a b = ap command.Link (steps_one a.0 m n a.2 (subst (λ os. AreSteps os n) (same_options (codes "link") words a.0 b.0 a.1 b.1) b.2))
command_one words (command.List m) (command.Build n) a b = absurd (omega (arith, two_names 0 (codes "list") (codes "build") words a.0 b.0 a.1 b.1))
command_one words (command.List m) (command.Link n) a b = absurd (omega (arith, two_names 2 (codes "list") (codes "link") words a.0 b.0 a.1 b.1))
command_one words (command.Build m) (command.List n) a b = absurd (omega (arith, two_names 0 (codes "build") (codes "list") words a.0 b.0 a.1 b.1))
command_one words (command.Build m) (command.Link n) a b = absurd (omega (arith, two_names 0 (codes "build") (codes "link") words a.0 b.0 a.1 b.1))
command_one words (command.Link m) (command.List n) a b = absurd (omega (arith, two_names 2 (codes "link") (codes "list") words a.0 b.0 a.1 b.1))
command_one words (command.Link m) (command.Build n) a b = absurd (omega (arith, two_names 0 (codes "link") (codes "build") words a.0 b.0 a.1 b.1))
command_one words command.Fmt command.Fmt a b = refl
command_one words command.Fmt (command.List n) a b = absurd (omega (arith, two_names 0 (codes "fmt") (codes "list") words a.0 b.0 a.1 b.1))
command_one words command.Fmt (command.Build n) a b = absurd (omega (arith, two_names 0 (codes "fmt") (codes "build") words a.0 b.0 a.1 b.1))
command_one words command.Fmt (command.Link n) a b = absurd (omega (arith, two_names 0 (codes "fmt") (codes "link") words a.0 b.0 a.1 b.1))
command_one words (command.List m) command.Fmt a b = absurd (omega (arith, two_names 0 (codes "list") (codes "fmt") words a.0 b.0 a.1 b.1))
command_one words (command.Build m) command.Fmt a b = absurd (omega (arith, two_names 0 (codes "build") (codes "fmt") words a.0 b.0 a.1 b.1))
command_one words (command.Link m) command.Fmt a b = absurd (omega (arith, two_names 0 (codes "link") (codes "fmt") words a.0 b.0 a.1 b.1))

-- options that are no limits, no steps, or are not to be there, are behind no command
pub list_refused : (words options : List (List ℕ)) → words ≡ codes "list" ∷ options → ((opts : Opts) → AreLimits options opts → ⊥) → (command : Command) → AreWords words command → ⊥
list_refused words options is none (command.List opts) a = none opts (subst (λ os. AreLimits os opts) (same_options (codes "list") words options a.0 is a.1) a.2)
list_refused words options is none (command.Build opts) a = absurd (omega (arith, two_names 0 (codes "list") (codes "build") words options a.0 is a.1))
list_refused words options is none (command.Link steps) a = absurd (omega (arith, two_names 2 (codes "list") (codes "link") words options a.0 is a.1))
list_refused words options is none command.Fmt a = absurd (omega (arith, two_names 0 (codes "list") (codes "fmt") words options a.0 is a.1))

pub build_refused : (words options : List (List ℕ)) → words ≡ codes "build" ∷ options → ((opts : Opts) → AreLimits options opts → ⊥) → (command : Command) → AreWords words command → ⊥
build_refused words options is none (command.List opts) a = absurd (omega (arith, two_names 0 (codes "build") (codes "list") words options a.0 is a.1))
build_refused words options is none (command.Build opts) a = none opts (subst (λ os. AreLimits os opts) (same_options (codes "build") words options a.0 is a.1) a.2)
build_refused words options is none (command.Link steps) a = absurd (omega (arith, two_names 0 (codes "build") (codes "link") words options a.0 is a.1))
build_refused words options is none command.Fmt a = absurd (omega (arith, two_names 0 (codes "build") (codes "fmt") words options a.0 is a.1))

pub link_refused : (words options : List (List ℕ)) → words ≡ codes "link" ∷ options → ((steps : ℕ) → AreSteps options steps → ⊥) → (command : Command) → AreWords words command → ⊥
link_refused words options is none (command.List opts) a = absurd (omega (arith, two_names 2 (codes "link") (codes "list") words options a.0 is a.1))
link_refused words options is none (command.Build opts) a = absurd (omega (arith, two_names 0 (codes "link") (codes "build") words options a.0 is a.1))
link_refused words options is none (command.Link steps) a = none steps (subst (λ os. AreSteps os steps) (same_options (codes "link") words options a.0 is a.1) a.2)
link_refused words options is none command.Fmt a = absurd (omega (arith, two_names 0 (codes "link") (codes "fmt") words options a.0 is a.1))

pub fmt_refused : (words options : List (List ℕ)) → words ≡ codes "fmt" ∷ options → (options ≡ [] → ⊥) → (command : Command) → AreWords words command → ⊥
fmt_refused words options is none (command.List opts) a = absurd (omega (arith, two_names 0 (codes "fmt") (codes "list") words options a.0 is a.1))
fmt_refused words options is none (command.Build opts) a = absurd (omega (arith, two_names 0 (codes "fmt") (codes "build") words options a.0 is a.1))
fmt_refused words options is none (command.Link steps) a = absurd (omega (arith, two_names 0 (codes "fmt") (codes "link") words options a.0 is a.1))
fmt_refused words options is none command.Fmt a = none (same_options (codes "fmt") words a.0 options a.1 is ∙ a.2)

abbrev pub texts : List (Bor (List ℕ)) → List (List ℕ)
texts words = map (λ w. w.now) words

-- the words are a command and the options behind it
pub verb_and_options : (name : List ℕ) (words options : List (Bor (List ℕ))) (verb : Bor (List ℕ)) → words ≡ verb ∷ options → verb.now ≡ name → texts words ≡ name ∷ texts options
verb_and_options name words options verb is says = ap texts is ∙ ap (λ w. w ∷ texts options) says

-- a list around one of its places
pub around : (words : List (Bor (List ℕ))) (i : ℕ) (d : Bor (List ℕ)) → i < length words → texts words ≡ texts (take i words) ++ (get_or words i d).now ∷ texts (drop (i + 1) words)
around words i d within =
    let parts : words ≡ take i words ++ get_or words i d ∷ drop (i + 1) words = sym (take-append-drop i words) ∙ ap (λ rest. take i words ++ rest) (drop_more words i d within) in
    ap texts parts ∙ map-append (λ w. w.now) (take i words) (get_or words i d ∷ drop (i + 1) words)
