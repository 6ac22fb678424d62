-- The text of a generated platform, and the replay that a sum tells of. The replay is the project's own.
use Rattle.std.specs.Prelude.{ℕ, ◌+◌, List, replicate}
use Rattle.std.specs.List.{concat, range_with_len}
use Rattle.smm_base.specs.declared.kinds.MapKind.TheVariants.{Intel64}
use Rattle.save_state_map.specs.declared.field.Field.TheVariants.{Revision, Smbase}
use Rattle.save_state_map.specs.Images.{ImageContents, with_field}
use Rattle.platform_gen.specs.Plans.{generated_setup}
use Rattle.platform_gen.specs.Texts.{text_of_generated}
use Rattle.smm_command.specs.declared.recipe.Recipe.{Recipe}
use Rattle.replay_report.specs.Plan.{Plan, plan}
use Rattle.replay_report.specs.Replays.{replayed}
use Rattle.replay_report.specs.Report.{last_line}

-- the text of the generated platform
unfoldable pub platform_text : Recipe → List ℕ
platform_text recipe = text_of_generated recipe.seed recipe.processors

-- an image of zeros but for the revision 30004H and the SMBASE 30000H
unfoldable pub zero_image : ImageContents
zero_image = record { kind = Intel64; bytes = replicate 1024 0 }

unfoldable pub start_image : ImageContents
start_image = with_field (with_field zero_image Revision 196612) Smbase 196608

-- one round is a turn of each processor by number, and then one of the chipset
abbrev pub round_of : ℕ → List ℕ
round_of processors = range_with_len 0 (processors + 1)

-- so many rounds
unfoldable pub rounds : ℕ → ℕ → List ℕ
rounds count processors = concat (replicate count (round_of processors))

-- the replay that a sum tells of: 2,000 rounds on the generated platform, from such images
unfoldable pub sum_plan : Recipe → Plan
sum_plan recipe = plan (generated_setup recipe.seed recipe.processors) (replicate recipe.processors start_image) (rounds 2000 recipe.processors)

-- the last line of the report of a replay
unfoldable pub last_line_of : Plan → List ℕ
last_line_of p = last_line (replayed p).events (replayed p).complete
