-- `service_examples::services::list` meets what it calls.
use Rattle.std.proofs.Common.{sym, arith, length-take-le}
use Rattle.service_examples.proofs.services.list.Goals as goal

pub slice_bounds-rigcactus_list-end : goal.slice_bounds-rigcactus_list-end
slice_bounds-rigcactus_list-end c =
    sym (length-take-le c.args.length c.list_before-list.result (omega (arith, c.list_before-list.ensures, c.requires)))
