-- 01-scope.md, "The refusal ladder", and requests A1, A5, A6 and A7: the refusals, their numbers and their order.
use Rattle.std.specs.Prelude.{ℕ, suc, Bool, true, false, cond, List, [], ◌∷◌, ◌++◌, leb, eqb}
use Rattle.std.proofs.Math.Option.{Option, none, some}
use Rattle.rules.specs.Basics.{if_some}

pub data Refusal : Type 0 where
  OFFSET TOO_LONG NOT_UTF_8 MARKUP TYPE SHAPE VALUE DATE CLOCK ZONE RULE UNKNOWN_BOUND TOO_MANY NOT_WRITABLE NO_ROOM NO_ROW TOTAL DAMAGED NO_DESK DAY_FULL : Refusal

abbrev pub number : Refusal → ℕ
number OFFSET = 1
number TOO_LONG = 2
number NOT_UTF_8 = 3
number MARKUP = 4
number TYPE = 5
number SHAPE = 6
number VALUE = 7
number DATE = 13
number CLOCK = 14
number ZONE = 15
number RULE = 8
number UNKNOWN_BOUND = 9
number TOO_MANY = 10
number NOT_WRITABLE = 12
number NO_ROOM = 11
number NO_ROW = 16
number TOTAL = 17
number DAMAGED = 21
number NO_DESK = 23
number DAY_FULL = 25

-- the ladder: the order in which refusals are given, which is not that of their numbers
abbrev pub precedence : List Refusal
precedence =
    NO_DESK ∷ DAMAGED ∷ DAY_FULL ∷ OFFSET ∷ TOO_LONG ∷ NOT_UTF_8 ∷ MARKUP ∷ TYPE ∷ SHAPE ∷ VALUE ∷ DATE ∷ CLOCK ∷ ZONE ∷ RULE ∷ UNKNOWN_BOUND ∷ TOO_MANY
    ∷ NOT_WRITABLE ∷ NO_ROOM ∷ NO_ROW ∷ TOTAL ∷ []

abbrev pub is_same : Refusal → Refusal → Bool
is_same a b = eqb (number a) (number b)

-- how many stand before it in a list
unfoldable pub rank_in : List Refusal → Refusal → ℕ
rank_in [] r = 0
rank_in (q ∷ l) r = cond (is_same q r) 0 (suc (rank_in l r))

abbrev pub rank : Refusal → ℕ
rank = rank_in precedence

-- of two, the one that stands first on the ladder; none is no fault
abbrev pub earlier : Option Refusal → Option Refusal → Option Refusal
earlier none b = b
earlier (some a) none = some a
earlier (some a) (some b) = some (cond (leb (rank a) (rank b)) a b)

-- of all faults, the one that stands first on the ladder
unfoldable pub first_of : List Refusal → Option Refusal
first_of [] = none
first_of (r ∷ rs) = earlier (some r) (first_of rs)

-- the fault r, exactly if b
infix 70 ◌when◌
abbrev pub ◌when◌ : Refusal → Bool → List Refusal
r when true = r ∷ []
r when false = []

-- an answer, or a refusal
pub data Outcome (A : Type 0) : Type 0 where
  answered : A → Outcome A
  refused : Refusal → Outcome A

-- the faults of what was answered, or the refusal
abbrev pub faults_in : {A : Type 0} → (A → List Refusal) → Outcome A → List Refusal
faults_in f (answered a) = f a
faults_in f (refused r) = r ∷ []

abbrev pub faults_of : {A : Type 0} → Outcome A → List Refusal
faults_of = faults_in (λ a. [])

-- refused by the first of all faults, its own and those given; else as it is
infixl 20 ◌unless◌
abbrev pub ◌unless◌ : {A : Type 0} → Outcome A → List Refusal → Outcome A
o unless faults = if_some (first_of (faults_of o ++ faults)) refused o

-- one and then the other
infixl 30 ◌and_then◌
abbrev pub ◌and_then◌ : {A B : Type 0} → Outcome A → (A → Outcome B) → Outcome B
answered a and_then f = f a
refused r and_then f = refused r

-- both, put together
abbrev pub both : {A B C : Type 0} → (A → B → C) → Outcome A → Outcome B → Outcome C
both f a b = a and_then λ x. b and_then λ y. answered (f x y)
