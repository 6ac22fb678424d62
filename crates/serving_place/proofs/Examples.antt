-- Whole lists by computation.
use Rattle.std.proofs.Common.{ℕ, List, [], ◌∷◌, Some, None, refl, arith}
use Rattle.smm_base.specs.declared.status.Status.TheVariants.{Success, NotFound, InvalidParameter}
use Rattle.smm_base.specs.declared.kinds.HandlerType.TheVariants.{Root}
use Rattle.cpu_table.specs.declared.handlers.OpDef.{OpDef}
use Rattle.cpu_table.specs.declared.handlers.OpDef.TheVariants as op
use Rattle.cpu_table.specs.declared.handlers.Act.TheVariants.{Get}
use Rattle.cpu_table.specs.declared.handlers.Operand.TheVariants.{Number, Variable}
use Rattle.sync_words.specs.declared.label.StartRefusal.TheVariants.{Busy}
use Rattle.sync_words.specs.declared.label.Label.TheVariants as say
use Rattle.smram_pool.specs.State.{fresh}
use Rattle.serving_place.specs.Serving.{Serving, Free}
use Rattle.serving_place.specs.Forms.{Event, Own, Ran, Program, IsWhole}

-- a platform with one handler that manages its own list
self_managing : Program
self_managing = record { handlers = record { name = []; kind = Some Root; answer = Success; ops = op.Manage Root ∷ [] } ∷ []; procedures = [] }

start : ℕ → Serving
start n =
    record {
      variables = 0 ∷ 0 ∷ [];
      registrations = record { live = record { serial = 1; kind = Root; handler = 0 } ∷ []; last = 1 };
      pool = fresh 8192 1;
      seats = Free ∷ Free ∷ [];
      given = 0;
      tokens = [];
      left = n;
    }

four_levels : IsWhole self_managing 1 (Root ∷ []) (start 100) (Own (say.Begin 1) ∷ Own (say.Manage Root) ∷ Own (say.Call 0) ∷ Own (say.Manage Root) ∷ Own (say.Call 0) ∷ Own (say.Manage Root) ∷ Own (say.Call 0) ∷ Own (say.Manage Root) ∷ Own (say.Call 0) ∷ Own (say.Deep Root) ∷ Own (say.Return 0 Success) ∷ Own (say.Answer Success) ∷ Own (say.Return 0 Success) ∷ Own (say.Answer Success) ∷ Own (say.Return 0 Success) ∷ Own (say.Answer Success) ∷ Own (say.Return 0 Success) ∷ Own (say.Answer Success) ∷ [])
unfolding self_managing start
four_levels = (refl, (refl, (refl, (refl, (refl, (refl, (refl, (refl, (refl, (refl, (refl, (refl, (refl, (refl, (refl, (refl, (refl, (refl, refl))))))))))))))))))

four_units : IsWhole self_managing 1 (Root ∷ []) (start 4) (Own (say.Begin 1) ∷ Own (say.Manage Root) ∷ Own (say.Call 0) ∷ Own (say.Manage Root) ∷ Own (say.Call 0) ∷ Own say.Spent ∷ [])
unfolding self_managing start
four_units = (refl, (refl, (refl, (refl, (refl, (refl, refl))))))

-- one root handler that does these operations, and the procedure with the name 1, which gets RAX
doing : List OpDef → Program
doing os =
    record {
      handlers = record { name = []; kind = Some Root; answer = Success; ops = os } ∷ record { name = 2 ∷ []; kind = None; answer = Success; ops = [] } ∷ [];
      procedures = record { name = 1 ∷ []; act = Get; reg = 38 } ∷ [];
    }

-- the labels of that handler's operations, between its call and its return
in_call : List Event → List Event
in_call es = Own (say.Begin 1) ∷ Own (say.Manage Root) ∷ Own (say.Call 0) ∷ es

the_end : List Event
the_end = Own (say.Return 0 Success) ∷ Own (say.Answer Success) ∷ []

-- A launch, a launch that finds the processor busy, a wait that collects the first job, and a launch again.
launches : Program
launches = doing (op.Launch 1 (1 ∷ []) (Number 0) 0 ∷ op.Launch 1 (1 ∷ []) (Number 0) 0 ∷ op.Wait (Variable 0) 1 ∷ op.Launch 1 (1 ∷ []) (Number 0) 0 ∷ [])

launched_twice : IsWhole launches 1 (Root ∷ []) (start 100) (in_call (Own (say.Start 1 1 0 0) ∷ Own (say.Refuse 1 Busy) ∷ Ran 1 1 42 Success ∷ Own (say.Collect 1) ∷ Own (say.Wait 1 42 Success) ∷ Own (say.Start 1 2 0 0) ∷ the_end))
unfolding launches doing start in_call the_end
launched_twice = (refl, (refl, (refl, (record { processor = refl; there = omega arith; free = tt; job = refl; procedure = refl; argument = refl }, (refl, (refl, ((refl, tt), ((refl, (refl, refl)), (record { processor = refl; there = omega arith; free = tt; job = refl; procedure = refl; argument = refl }, (refl, (refl, refl)))))))))))

-- A start, whose variable takes the result that the job's run gave, and then a set of another variable to it.
started : IsWhole (doing (op.Start 1 (1 ∷ []) (Number 5) 0 ∷ op.Set 1 (Variable 0) ∷ [])) 1 (Root ∷ []) (start 100) (in_call (Own (say.Start 1 1 0 5) ∷ Ran 1 1 42 Success ∷ Own (say.Collect 1) ∷ Own (say.Set 1 42) ∷ the_end))
unfolding doing start in_call the_end
started = (refl, (refl, (refl, (record { processor = refl; there = omega arith; free = tt; job = refl; procedure = refl; argument = refl }, (refl, ((refl, tt), ((refl, refl), (refl, (refl, refl)))))))))

-- The first block of a page, a free of it, a second free of it, and a request of nothing.
allocated_and_freed : IsWhole (doing (op.Alloc (Number 64) 0 ∷ op.Free (Variable 0) ∷ op.Free (Variable 0) ∷ op.Alloc (Number 0) 1 ∷ [])) 1 (Root ∷ []) (start 100) (in_call (Own (say.Alloc 64 8192 Success) ∷ Own (say.Free 8192 Success) ∷ Own (say.Free 8192 InvalidParameter) ∷ Own (say.Alloc 0 0 InvalidParameter) ∷ the_end))
unfolding doing start in_call the_end
allocated_and_freed = (refl, (refl, (refl, ((refl, (refl, refl)), ((refl, refl), ((refl, refl), ((refl, (refl, refl)), (refl, (refl, refl)))))))))

-- A handler that is registered while a walk goes on is not called by that walk, and one that is taken away is not called any more.
registered_late : IsWhole (doing (op.Register 1 Root 0 ∷ op.Unregister (Number 1) ∷ op.Unregister (Number 1) ∷ [])) 1 (Root ∷ Root ∷ []) (start 100) (in_call (Own (say.Register 1 2 Success) ∷ Own (say.Unregister 1 Success) ∷ Own (say.Unregister 1 NotFound) ∷ Own (say.Return 0 Success) ∷ Own (say.Answer Success) ∷ Own (say.Manage Root) ∷ Own (say.Call 1) ∷ Own (say.Return 1 Success) ∷ Own (say.Answer Success) ∷ []))
unfolding doing start in_call
registered_late = (refl, (refl, (refl, ((refl, (refl, refl)), ((refl, refl), ((refl, refl), (refl, (refl, (refl, (refl, (refl, (refl, refl))))))))))))
