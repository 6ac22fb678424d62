use Rattle.smm_base.specs.MemSink.{no_write_fails}
use Rattle.smm_base.specs.MemStore.{file_of, no_load_fails, no_save_fails}
use Rattle.smm_command.specs.Commands.{texts, form_of}
use Rattle.smm_player.proofs.PlayLemmas.{all_is_done}
use Rattle.smm_player.proofs.memory_play.play_in_memory.Goals as goal

pub returns : goal.returns
returns c =
    all_is_done (form_of (texts c.args.words.now.items)) (file_of c.args.store.now) c.play.result c.requires.good
    (c.play.ensures.complete (λ rose. no_load_fails c.requires.store_works c.play.ensures.store_moved rose) (λ rose. no_write_fails c.requires.sink_works c.play.ensures.sink_moved rose) (λ rose. no_save_fails c.requires.store_works c.play.ensures.store_moved rose))
