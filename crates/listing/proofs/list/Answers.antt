-- `listing::list` meets its contract.
use native.Mathlib.Omega.{arith}
use mathlib.Core.Path.{◌≡◌, refl}
use borrow.Author.Tests.{not-true, not-false}
use lib.ListN.{length}
use Rattle.interval.proofs.Items.{length_mapped}
use Rattle.listing.proofs.Answering.{answers-unknown, answers-many, answers_no_room, answers-count}
use Rattle.listing.proofs.list.Goals as goal

pub returns-then-not-written : goal.returns-then-not-written
returns-then-not-written c =
    record {
      kept = refl;
      tells = λ e d f l.
          answers-unknown c.args.shift.minutes e c.args.out.now f l (c.evaluate-written.ensures.tells e _ d.tag).0 (not-true _ c.if-not-written.true);
      few = tt;
    }

pub returns-then-written-gt32 : goal.returns-then-written-gt32
returns-then-written-gt32 c =
    record {
      kept = refl;
      tells = λ e d f l.
          answers-many c.args.shift.minutes e c.args.out.now f l (c.evaluate-written.ensures.tells e _ d.tag).0 (not-false _ c.if-not-written.false) c.if-written-gt32.true;
      few = tt;
    }

pub returns-then-out-count : goal.returns-then-out-count
returns-then-out-count c =
    let g : length c.evaluate-written.result.set.items ≡ 32 = search (length_mapped, c.evaluate-written.type_inv.1.1.1.1.0) in record {
      kept = refl;
      tells = λ e d f l. answers_no_room c.args.shift.minutes e c.args.out.now f l (c.evaluate-written.ensures.tells e _ d.tag).0 (not-false _ c.if-not-written.false)
          c.evaluate-written.ensures.formed (omega (arith, c.if-written-gt32.false)) g c.if-out-count.true;
      few = tt;
    }

pub returns : goal.returns
returns c =
    let g : length c.evaluate-written.result.set.items ≡ 32 = search (length_mapped, c.evaluate-written.type_inv.1.1.1.1.0) in record {
      kept = tt;
      tells = λ e d f l. answers-count c.args.shift.minutes e c.args.out.now f l (c.evaluate-written.ensures.tells e _ d.tag).0 (not-false _ c.if-not-written.false)
          c.evaluate-written.ensures.formed (omega (arith, c.if-written-gt32.false)) g (omega (arith, c.if-out-count.false)) c.write_list.ensures;
      few = omega (
        arith,
        c.evaluate-written.ensures.formed.short,
        c.if-written-gt32.false,
      );
    }
