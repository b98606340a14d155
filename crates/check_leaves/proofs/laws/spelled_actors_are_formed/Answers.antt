use Rattle.check_leaves.proofs.laws.spelled_actors_are_formed.Goals as goal

pub returns : goal.returns
returns c files class scope spelled gives =
    let parts = c.parts_are_formed.ensures files class scope spelled gives in
    let calls = c.calls_end.ensures files class scope spelled gives in
    record {
      funs = parts.funs;
      procs = parts.procs;
      actions = parts.actions;
      schedule = parts.schedule;
      distinct = c.names_differ.ensures files class scope spelled gives;
      fun_scopes = c.funs_are_scoped.ensures files class scope spelled gives;
      proc_scopes = c.procs_are_scoped.ensures files class scope spelled gives;
      action_scopes = c.actions_are_scoped.ensures files class scope spelled gives;
      funs_end = calls.funs;
      procs_end = calls.procs;
    }
