-- The three ways through the cut service.
use Prim.Native.Nat.{ℕ, ◌*◌, ◌≤◌, ◌<◌}
use mathlib.Core.Path.{◌≡◌, refl}
use mathlib.Core.Bool.{Bool, true, false, not}
use mathlib.Core.List.{List, [], ◌∷◌, ◌++◌}
use lib.ListN.{length}
use borrow.Author.Tests.{lt-ltb, le-ltb}
use Rattle.rules.specs.Refusal.{TOO_LONG, NOT_UTF_8, number, rank_in, first_of, answered, ◌unless◌, ◌when◌}
use Rattle.rules.specs.Utf8.{is_utf8, cut_length}
use Rattle.rules.specs.Services.{packed, cutting, cut_answer}

pub cut_too_long : (text : List ℕ) (room : ℕ) → 16_384 < length text → number TOO_LONG ≡ cut_answer text room
unfolding cutting first_of rank_in
cut_too_long text room h = rw (lt-ltb 16_384 (length text) h) (go (is_utf8 text))
  where
    go : (b : Bool) → number TOO_LONG ≡ packed (λ n. n) (answered (cut_length room text) unless (TOO_LONG ∷ []) ++ NOT_UTF_8 when not b)
    go true = refl
    go false = refl

pub cut-not_utf8 : (text : List ℕ) (room : ℕ) → length text ≤ 16_384 → is_utf8 text ≡ false → number NOT_UTF_8 ≡ cut_answer text room
unfolding cutting first_of rank_in
cut-not_utf8 text room h e = rw (le-ltb 16_384 (length text) h, e) refl

pub cut-accepted : (text : List ℕ) (room : ℕ) → length text ≤ 16_384 → is_utf8 text ≡ true → cut_length room text * 256 ≡ cut_answer text room
unfolding cutting first_of
cut-accepted text room h e = rw (le-ltb 16_384 (length text) h, e) refl
