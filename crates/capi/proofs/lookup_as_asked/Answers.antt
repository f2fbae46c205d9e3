-- `capi::lookup_as_asked` meets its contract: by whether the file loads.
use Rattle.capi.proofs.Laws.{never-loads, loads}
use Rattle.capi.proofs.lookup_as_asked.Goals as goal

pub returns-in-Err : goal.returns-in-Err
returns-in-Err c = never-loads c.args.file.now _ c.in-Err.ensures

pub returns-in-Ok : goal.returns-in-Ok
returns-in-Ok c = loads c.args.file.now _ c.in-Ok.ensures c.numbers_fit.ensures
