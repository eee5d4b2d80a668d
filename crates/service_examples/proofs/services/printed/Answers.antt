-- `service_examples::services::printed` meets what it calls.
use Rattle.std.proofs.Common.{sym, arith, length-take-le}
use Rattle.service_examples.proofs.services.printed.Goals as goal

pub slice_bounds-rigcactus_print-end : goal.slice_bounds-rigcactus_print-end
slice_bounds-rigcactus_print-end c =
    sym (length-take-le c.args.room c.record_before-record.result (omega (arith, c.record_before-record.ensures, c.requires)))
