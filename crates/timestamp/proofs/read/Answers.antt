-- `timestamp::read` meets its contract, by a law for each way through it: of fourteen digits, and of any other text.
use Rattle.std.proofs.lemmas.Result.{err_from_is_err_and}
use Rattle.timestamp.proofs.Answers.{found_form, found_fourteen, wrong_form, impossible, moment_is, possible}
use Rattle.timestamp.specs.Moments.{moment_of}
use Rattle.rules.specs.Refusal.{answered}
use mathlib.Core.Bool.{true, false}
use mathlib.Core.Path.{refl, sym, ◌∙◌, ap}
use Rattle.timestamp.proofs.read.Goals as goal

pub returns-then-not-is_date : goal.returns-then-not-is_date
returns-then-not-is_date c = impossible _ _ (found_fourteen _ _ _ c.read.ensures c.in-Some.is) c.args.shift.minutes false _ _ (sym c.is_date.ensures ∙ c.if-not-is_date.true) refl refl refl

pub returns-then-not-is_clock : goal.returns-then-not-is_clock
returns-then-not-is_clock c = impossible _ _ (found_fourteen _ _ _ c.read.ensures c.in-Some.is) c.args.shift.minutes true false _ (sym c.is_date.ensures ∙ c.if-not-is_date.false) (sym c.is_clock.ensures ∙ c.if-not-is_clock.true) refl refl

pub fourteen_moment-requires : goal.fourteen_moment-requires
fourteen_moment-requires c = possible _ _ (found_fourteen _ _ _ c.read.ensures c.in-Some.is) c.args.shift.minutes c.args.shift.small (sym c.is_date.ensures ∙ c.if-not-is_date.false) (sym c.is_clock.ensures ∙ c.if-not-is_clock.false) refl

pub returns-in-Some : goal.returns-in-Some
returns-in-Some c = ap (λ m. answered (moment_of m)) c.fourteen_moment.ensures ∙ moment_is _ _ (found_fourteen _ _ _ c.read.ensures c.in-Some.is) c.args.shift.minutes (possible _ _ (found_fourteen _ _ _ c.read.ensures c.in-Some.is) c.args.shift.minutes c.args.shift.small (sym c.is_date.ensures ∙ c.if-not-is_date.false) (sym c.is_clock.ensures ∙ c.if-not-is_clock.false) refl)

pub returns-in_err-w : goal.returns-in_err-w
returns-in_err-w c = let p = err_from_is_err_and c.from_residual.result c.from_residual.ensures.1 in rw (p.1, p.2) (wrong_form _ _ _ _ c.read_form.ensures (sym c.ok_or.ensures.value ∙ c.in_err-w.was))

pub returns-then-not-is_date-2 : goal.returns-then-not-is_date-2
returns-then-not-is_date-2 c = impossible _ _ (found_form _ _ _ c.read_form.ensures (sym c.ok_or.ensures.value ∙ c.in_ok-w.was)) c.args.shift.minutes false _ _ (sym c.is_date-2.ensures ∙ c.if-not-is_date-2.true) refl refl refl

pub returns-then-not-is_clock-2 : goal.returns-then-not-is_clock-2
returns-then-not-is_clock-2 c = impossible _ _ (found_form _ _ _ c.read_form.ensures (sym c.ok_or.ensures.value ∙ c.in_ok-w.was)) c.args.shift.minutes true false _ (sym c.is_date-2.ensures ∙ c.if-not-is_date-2.false) (sym c.is_clock-2.ensures ∙ c.if-not-is_clock-2.true) refl refl

pub is_zone-requires : goal.is_zone-requires
is_zone-requires c = (found_form _ _ _ c.read_form.ensures (sym c.ok_or.ensures.value ∙ c.in_ok-w.was)).2.small.1

pub returns-then-not-is_zone : goal.returns-then-not-is_zone
returns-then-not-is_zone c = impossible _ _ (found_form _ _ _ c.read_form.ensures (sym c.ok_or.ensures.value ∙ c.in_ok-w.was)) c.args.shift.minutes true true false (sym c.is_date-2.ensures ∙ c.if-not-is_date-2.false) (sym c.is_clock-2.ensures ∙ c.if-not-is_clock-2.false) (sym c.is_zone.ensures ∙ c.if-not-is_zone.true) refl

pub make_moment-requires : goal.make_moment-requires
make_moment-requires c = possible _ _ (found_form _ _ _ c.read_form.ensures (sym c.ok_or.ensures.value ∙ c.in_ok-w.was)) c.args.shift.minutes c.args.shift.small (sym c.is_date-2.ensures ∙ c.if-not-is_date-2.false) (sym c.is_clock-2.ensures ∙ c.if-not-is_clock-2.false) (sym c.is_zone.ensures ∙ c.if-not-is_zone.false)

pub returns : goal.returns
returns c = ap (λ m. answered (moment_of m)) c.make_moment.ensures ∙ moment_is _ _ (found_form _ _ _ c.read_form.ensures (sym c.ok_or.ensures.value ∙ c.in_ok-w.was)) c.args.shift.minutes (possible _ _ (found_form _ _ _ c.read_form.ensures (sym c.ok_or.ensures.value ∙ c.in_ok-w.was)) c.args.shift.minutes c.args.shift.small (sym c.is_date-2.ensures ∙ c.if-not-is_date-2.false) (sym c.is_clock-2.ensures ∙ c.if-not-is_clock-2.false) (sym c.is_zone.ensures ∙ c.if-not-is_zone.false))
