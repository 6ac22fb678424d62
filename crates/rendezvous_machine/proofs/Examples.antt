-- A whole session of two processors by computation: a job is given, a second one is refused, and the first is run, collected and told of.
use Rattle.std.proofs.Common.{◌≢◌, ◌<◌, ℕ, zero, suc, List, [], ◌∷◌, Some, None, refl, sym, inl, arith, true≢false}
use Rattle.smm_base.specs.declared.kinds.HandlerType.TheVariants.{Root}
use Rattle.smm_base.specs.declared.kinds.MapKind.TheVariants.{Intel64}
use Rattle.smm_base.specs.declared.kinds.Policy.TheVariants.{Elected}
use Rattle.smm_base.specs.declared.status.Status.TheVariants.{Success}
use Rattle.save_state_map.specs.Images.{ImageContents}
use Rattle.cpu_regs.specs.Registers.{Registers}
use Rattle.cpu_table.specs.Data.{SetupData}
use Rattle.cpu_table.specs.declared.handlers.Act.TheVariants.{Put}
use Rattle.cpu_table.specs.declared.handlers.OpDef.TheVariants as op
use Rattle.cpu_table.specs.declared.handlers.Operand.TheVariants.{Number, Variable}
use Rattle.cpu_table.specs.declared.setup.Mode.TheVariants.{Traditional}
use Rattle.cpu_table.specs.declared.waves.Arrival.TheVariants.{Prompt}
use Rattle.sync_words.specs.declared.label.StartRefusal.TheVariants.{Busy}
use Rattle.sync_words.specs.declared.label.Label.TheVariants as say
use Rattle.serving_place.specs.Forms.{Event, Own, Ran, IsWhole}
use Rattle.serving_place.specs.Beginning.{program_of, walks_of, at_begin, registrations_of, pool_at_first}
use Rattle.rendezvous_machine.specs.Machines.{beginning}
use Rattle.rendezvous_machine.specs.Runs.{Said, IsRun}

-- the handler gives processor 1 the procedure that puts its argument into PROCESSOR_ID, which keeps the image
abbrev setup : SetupData
setup =
    record {
      processors = 2;
      kind = Intel64;
      policy = Elected;
      mode = Traditional;
      t1 = 1;
      t2 = 1;
      visits = 1;
      ops = 64;
      ids = 0 ∷ 1 ∷ [];
      smram = None;
      waves = record { status = Prompt ∷ Prompt ∷ []; manage = Root ∷ [] } ∷ [];
      handlers = record { name = []; kind = Some Root; answer = Success; ops = op.Launch 1 (1 ∷ []) (Number 7) 0 ∷ op.Launch 1 (1 ∷ []) (Number 7) 0 ∷ op.Wait (Variable 0) 1 ∷ [] } ∷ [];
      procedures = record { name = 1 ∷ []; act = Put; reg = 514 } ∷ [];
      causes = [];
    }

-- the serving list from its ends on
abbrev after_return : List Event
after_return = Own (say.Answer Success) ∷ []

abbrev after_wait : List Event
after_wait = Own (say.Return 0 Success) ∷ after_return

abbrev after_collect : List Event
after_collect = Own (say.Wait 1 0 Success) ∷ after_wait

abbrev after_refuse : List Event
after_refuse = Ran 1 1 0 Success ∷ Own (say.Collect 1) ∷ after_collect

abbrev after_start : List Event
after_start = Own (say.Refuse 1 Busy) ∷ after_refuse

abbrev after_call : List Event
after_call = Own (say.Start 1 1 0 7) ∷ after_start

abbrev after_manage : List Event
after_manage = Own (say.Call 0) ∷ after_call

abbrev after_begin : List Event
after_begin = Own (say.Manage Root) ∷ after_manage

whole : IsWhole (program_of setup) 1 (walks_of setup.waves 1) (at_begin setup (registrations_of setup.handlers) (pool_at_first setup)) (Own (say.Begin 1) ∷ after_begin)
whole = (
  refl,
  (
    refl,
    (
      refl,
      (
        record { processor = refl; there = omega arith; free = tt; job = refl; procedure = refl; argument = refl },
        (refl, (refl, ((refl, tt), ((refl, (refl, refl)), (refl, (refl, refl)))))),
      ),
    ),
  ),
)

abbrev said : List Said
said =
    (2, say.Excepted 0) ∷ (2, say.Wave 1) ∷ (0, say.Enter) ∷ (0, say.Arrive) ∷ (0, say.Elect) ∷ (1, say.Enter) ∷ (0, say.Served 1) ∷ (1, say.Arrive)
    ∷ (0, say.Gather 0) ∷ (0, say.Ready 2) ∷ (0, say.Close 2) ∷ (1, say.Report) ∷ (0, say.Begin 1) ∷ (0, say.Manage Root) ∷ (0, say.Call 0)
    ∷ (0, say.Start 1 1 0 7) ∷ (0, say.Refuse 1 Busy) ∷ (1, say.Run 1 0 Success) ∷ (0, say.Collect 1) ∷ (0, say.Wait 1 0 Success)
    ∷ (0, say.Return 0 Success) ∷ (0, say.Answer Success) ∷ (0, say.Done) ∷ (0, say.Release 1) ∷ (1, say.Depart) ∷ (0, say.End) ∷ []

only_one : (P : ℕ → Type 0) → P 1 → (j : ℕ) → j < 2 → j ≢ 0 → P j
only_one P p zero l n = absurd (n refl)
only_one P p (suc zero) l n = p
only_one P p (suc (suc j)) l n = absurd (omega arith)

each : (P : ℕ → Type 0) → P 0 → P 1 → (j : ℕ) → j < 2 → P j
each P p q zero l = p
each P p q (suc zero) l = q
each P p q (suc (suc j)) l = absurd (omega arith)

one_session : (r0 r1 : Registers) (m0 m1 : ImageContents) → IsRun setup (beginning setup (r0 ∷ r1 ∷ []) (m0 ∷ m1 ∷ [])) said
one_session r0 r1 m0 m1 = (
  ((refl, omega arith), refl, refl),
  (
    ((refl, omega arith), refl, refl),
    (
      (refl, omega arith, omega arith),
      (
        (refl, λ x. x),
        (
          (refl, refl, tt),
          (
            (refl, omega arith, omega arith),
            (
              (refl, (refl, refl)),
              (
                (refl, λ x. absurd (true≢false (sym x))),
                (
                  ((refl, (refl, refl, refl)), refl),
                  (
                    ((refl, (refl, omega arith, omega arith)), refl),
                    (
                      ((refl, (refl, inl refl)), refl),
                      (
                        (refl, λ x. omega arith),
                        (
                          (refl, (refl, refl, (refl, only_one _ (λ t. refl)))),
                          (
                            (refl, (after_manage, whole)),
                            (
                              (refl, (after_call, whole)),
                              (
                                ((refl, (after_start, whole)), refl, refl),
                                (
                                  ((refl, (after_refuse, whole)), refl),
                                  (
                                    (refl, (refl, refl, refl)),
                                    (
                                      ((refl, inl (after_collect, whole)), refl),
                                      (
                                        (refl, (after_wait, whole)),
                                        (
                                          (refl, (after_return, whole)),
                                          (
                                            (refl, ([], whole)),
                                            (
                                              ((refl, (refl, whole, refl)), only_one _ (λ t. refl), each _ refl refl),
                                              (
                                                ((refl, refl), λ x. omega arith, refl, refl),
                                                ((refl, only_one _ (λ t. refl), refl), (((refl, refl), only_one _ (λ t. refl)), tt)),
                                              ),
                                            ),
                                          ),
                                        ),
                                      ),
                                    ),
                                  ),
                                ),
                              ),
                            ),
                          ),
                        ),
                      ),
                    ),
                  ),
                ),
              ),
            ),
          ),
        ),
      ),
    ),
  ),
)
