use Rattle.rustsec_fixtures.proofs.FoldersInMemory.{list-fails, lists, lists-none}
use Rattle.rustsec_fixtures.proofs.folders_in_memory.MemoryFoldersFolders.list.Goals as goal

pub returns-then-fails_now-clause-err : goal.returns-then-fails_now-clause-err
returns-then-fails_now-clause-err c =
    list-fails c.args.self.now c.fails_now.new.self c.args.path.now c.call_error.result c.fails_now.ensures.same (c.fails_now.ensures.fails c.if-fails_now.true) c.call_error.ensures

pub returns-clause-ok : goal.returns-clause-ok
returns-clause-ok c = lists c.args.self.now c.fails_now.new.self c.args.path.now _ c.listed.result c.fails_now.ensures.same c.held_now.ensures c.listed.ensures.ok

pub returns-clause-err : goal.returns-clause-err
returns-clause-err c = lists-none c.args.self.now c.fails_now.new.self c.args.path.now _ c.listed.result c.fails_now.ensures.same c.held_now.ensures c.listed.ensures.err
