use Rattle.transcripts.proofs.LoadsLemmas.{load_asks_some}
use Rattle.transcripts.proofs.loads.read_load.Goals as goal

pub returns-in-Err-Failed-clause-asks : goal.returns-in-Err-Failed-clause-asks
returns-in-Err-Failed-clause-asks g c = (load_asks_some _ _ _ _ _ c.in-Load.is c.if-is_lawful_path.ensures c.read_file.ensures.asks).first

pub returns-in-Err-Failed-clause-asks_some : goal.returns-in-Err-Failed-clause-asks_some
returns-in-Err-Failed-clause-asks_some g c = λ _. load_asks_some _ _ _ _ _ c.in-Load.is c.if-is_lawful_path.ensures c.read_file.ensures.asks

pub returns-in-Err-OutOfMemory-clause-asks : goal.returns-in-Err-OutOfMemory-clause-asks
returns-in-Err-OutOfMemory-clause-asks g c = (load_asks_some _ _ _ _ _ c.in-Load.is c.if-is_lawful_path.ensures c.read_file.ensures.asks).first

pub returns-in_err-loaded-in-Load-clause-asks : goal.returns-in_err-loaded-in-Load-clause-asks
returns-in_err-loaded-in-Load-clause-asks g c = (load_asks_some _ _ _ _ _ c.in-Load.is c.if-is_lawful_path.ensures c.read_file.ensures.asks).first

pub returns-in_ok-loaded-in-Load-clause-asks : goal.returns-in_ok-loaded-in-Load-clause-asks
returns-in_ok-loaded-in-Load-clause-asks g c = (load_asks_some _ _ _ _ _ c.in-Load.is c.if-is_lawful_path.ensures c.read_file.ensures.asks).first
