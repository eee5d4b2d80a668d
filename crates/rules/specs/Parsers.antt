-- The words in which grammars are written. A parser goes from a list of bytes to what it reads and what is left, or fails.
use Rattle.std.specs.Prelude.{ℕ, zero, suc, Bool, cond, List, [], ◌∷◌, eqb, length}
use Rattle.std.proofs.Math.Option.{Option, none, some}

pub data Parsed (A : Type 0) : Type 0 where
  bad : Parsed A
  ok : A → List ℕ → Parsed A

abbrev pub Parser : Type 0 → Type 0
Parser A = List ℕ → Parsed A

abbrev pub next : {A B : Type 0} → Parsed A → (A → Parser B) → Parsed B
next bad k = bad
next (ok a r) k = k a r

abbrev pub else : {A : Type 0} → Parsed A → Parsed A → Parsed A
else bad q = q
else (ok a r) q = ok a r

-- what was read, if anything
abbrev pub result : {A : Type 0} → Parsed A → Option A
result bad = none
result (ok a r) = some a

-- reads nothing
abbrev pub pure : {A : Type 0} → A → Parser A
pure a s = ok a s

abbrev pub fail : {A : Type 0} → Parser A
fail s = bad

-- reads nothing, and fails unless b holds
abbrev pub guard : Bool → Parser (Unit {0})
guard b s = cond b (ok tt s) bad

-- one and then the other
infixr 20 ◌>>=◌
abbrev pub ◌>>=◌ : {A B : Type 0} → Parser A → (A → Parser B) → Parser B
(p >>= k) s = next (p s) k

infixr 20 ◌>>◌
abbrev pub ◌>>◌ : {A B : Type 0} → Parser A → Parser B → Parser B
p >> q = p >>= (λ a. q)

-- the other only where the one fails
infixr 15 ◌or◌
abbrev pub ◌or◌ : {A : Type 0} → Parser A → Parser A → Parser A
(p or q) s = else (p s) (q s)

abbrev pub opposite : {A : Type 0} → Parsed A → List ℕ → Parsed (Unit {0})
opposite bad s = ok tt s
opposite (ok a r) s = bad

-- reads nothing, and fails unless p fails
abbrev pub without : {A : Type 0} → Parser A → Parser (Unit {0})
without p s = opposite (p s) s

-- the bytes at the front for which p holds, and the rest
unfoldable pub front : (ℕ → Bool) → List ℕ → List ℕ
front p [] = []
front p (c ∷ s) = cond (p c) (c ∷ front p s) []

unfoldable pub after : (ℕ → Bool) → List ℕ → List ℕ
after p [] = []
after p (c ∷ s) = cond (p c) (after p s) (c ∷ s)

-- one byte for which p holds
unfoldable pub one : (ℕ → Bool) → Parser ℕ
one p [] = bad
one p (c ∷ s) = cond (p c) (ok c s) bad

-- all the bytes at the front for which p holds
unfoldable pub many : (ℕ → Bool) → Parser (List ℕ)
many p s = ok (front p s) (after p s)

-- n bytes for which p holds
unfoldable pub times : ℕ → (ℕ → Bool) → Parser (List ℕ)
times zero p = pure []
times (suc n) p = do
  c ← one p
  cs ← times n p
  pure (c ∷ cs)

-- as many bytes for which p holds as there are, up to n
unfoldable pub up_to : ℕ → (ℕ → Bool) → Parser (List ℕ)
up_to zero p = pure []
up_to (suc n) p =
    (do
      c ← one p
      cs ← up_to n p
      pure (c ∷ cs))
    or pure []

abbrev pub byte : ℕ → Parser ℕ
byte b = one (λ c. eqb c b)

-- the bytes of a list
unfoldable pub literal : List ℕ → Parser (Unit {0})
literal [] = pure tt
literal (b ∷ bs) = byte b >> literal bs

-- nothing is left
unfoldable pub finish : Parser (Unit {0})
finish [] = ok tt []
finish (c ∷ s) = bad

-- p is handed how many bytes are left
abbrev pub sized : {A : Type 0} → (ℕ → Parser A) → Parser A
sized p s = p (length s) s

-- what p reads, if it reads the whole text
abbrev pub whole : {A : Type 0} → Parser A → List ℕ → Option A
whole p s = result ((do
  a ← p
  finish
  pure a) s)
