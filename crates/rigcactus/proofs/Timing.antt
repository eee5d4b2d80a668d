-- The ways through the timestamp service.
use Prim.Native.Nat.{ℕ, ◌≤◌, ◌<◌}
use mathlib.Core.Path.{◌≡◌, refl, sym, ◌∙◌}
use mathlib.Core.Bool.{true, false}
use mathlib.Core.List.{List}
use lib.ListN.{length}
use lib.IntN.{ℤ}
use Rattle.rules.specs.Refusal.{number, OFFSET, TOO_LONG, Outcome, answered, refused}
use Rattle.rules.specs.Timestamp.{Moment, read_timestamp}
use Rattle.rules.specs.Check.{is_offset, shift_by}
use Rattle.timestamp.specs.Moments.{moment_of as moment, outcome_of}
use Rattle.timestamp.specs.declared.Moment.{Moment as CodeMoment}
use Rattle.std.specs.Prelude.{Result, Ok, Err}
use Rattle.refusal.specs.declared.Refusal.{Refusal}
use Rattle.refusal.specs.Meaning.{refusal_of}
use Rattle.rules.specs.Services.{timing, tick_answer, tick_after}
use Rattle.rules.proofs.Limits.{tick-offset_limit, tick-length_limit, tick-within-limits}

-- what the service answers, by the outcome
abbrev pub Answers : (offset : ℤ) → List ℕ → Outcome Moment → Type 0
Answers offset text o = timing offset text ≡ o

pub timing-offset : (offset : ℤ) (text : List ℕ) → is_offset offset ≡ false → Answers offset text (refused OFFSET)
timing-offset offset text = (tick-offset_limit offset text).1

pub timing-long : (offset : ℤ) (text : List ℕ) → is_offset offset ≡ true → 16_384 < length text → Answers offset text (refused TOO_LONG)
timing-long offset text e h = (tick-length_limit offset text).1 (e, h)

-- what the timestamp was read as
pub timing-passed : (offset : ℤ) (text : List ℕ) (shift : ℕ) (o : Outcome Moment) → is_offset offset ≡ true → length text ≤ 16_384 → shift ≡ shift_by offset
    → o ≡ read_timestamp shift text → timing offset text ≡ o
timing-passed offset text shift o e h s r = tick-within-limits offset text e h ∙ rw (← s) (sym r)

pub read_at : (shift : ℕ) (text : List ℕ) (t : Result CodeMoment Refusal) (m : CodeMoment) → outcome_of t ≡ read_timestamp shift text → t ≡ Ok m
    → read_timestamp shift text ≡ answered (moment m)
read_at shift text t m h e = sym h ∙ rw e refl

-- a refusal is passed on, and nothing is written
pub passed_on : (offset : ℤ) (text : List ℕ) (t : Result CodeMoment Refusal) (x : Refusal) → t ≡ Err x → timing offset text ≡ outcome_of t → (n : ℕ) → n ≡ number (refusal_of x)
    → {before : ℤ} → (n ≡ tick_answer offset text) × (before ≡ tick_after offset text before)
passed_on offset text t x e h n q = (q ∙ rw (h, e) refl, rw (h, e) refl)
