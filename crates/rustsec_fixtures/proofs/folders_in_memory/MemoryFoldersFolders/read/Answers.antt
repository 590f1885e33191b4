use Rattle.rustsec_fixtures.proofs.FoldersInMemory.{read-fails, reads, reads-none}
use Rattle.rustsec_fixtures.proofs.folders_in_memory.MemoryFoldersFolders.read.Goals as goal

pub returns-then-fails_now-clause-err : goal.returns-then-fails_now-clause-err
returns-then-fails_now-clause-err c =
    read-fails c.args.self.now c.fails_now.new.self c.args.path.now c.call_error.result c.fails_now.ensures.same (c.fails_now.ensures.fails c.if-fails_now.true) c.call_error.ensures

pub returns-clause-ok : goal.returns-clause-ok
returns-clause-ok c = reads c.args.self.now c.fails_now.new.self c.args.path.now _ c.read.result c.fails_now.ensures.same c.held_now.ensures c.read.ensures.ok

pub returns-clause-err : goal.returns-clause-err
returns-clause-err c = reads-none c.args.self.now c.fails_now.new.self c.args.path.now _ c.read.result c.fails_now.ensures.same c.held_now.ensures c.read.ensures.err
