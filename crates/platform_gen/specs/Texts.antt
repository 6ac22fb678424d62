-- The platform file that tells a plan. Its spelling is the project's own.
use Rattle.std.specs.Prelude.{ℕ, List, ◌++◌, codes, decimal}
use Rattle.std.specs.List.{join_by}
use Rattle.cpu_table.specs.declared.setup.Mode.{Mode}
use Rattle.cpu_table.specs.declared.setup.Mode.TheVariants.{Traditional, Relaxed}
use Rattle.cpu_table.specs.declared.waves.Arrival.{Arrival}
use Rattle.cpu_table.specs.declared.waves.Arrival.TheVariants.{Prompt, Delayed, Blocked, Absent}
use Rattle.platform_gen.specs.Plans.{generated_plan}
use Rattle.platform_gen.specs.declared.plan.Plan.{Plan}
use Rattle.platform_gen.specs.declared.plan.RaxWrite.{RaxWrite}

abbrev pub mode_word : Mode → List ℕ
mode_word Traditional = codes "traditional"
mode_word Relaxed = codes "relaxed"

-- a status as the word of a list, in quotes
abbrev pub quoted_word : Arrival → List ℕ
quoted_word Prompt = codes "\"prompt\""
quoted_word Delayed = codes "\"delayed\""
quoted_word Blocked = codes "\"blocked\""
quoted_word Absent = codes "\"absent\""

-- a write as an operation of a list
abbrev pub write_text : RaxWrite → List ℕ
write_text write =
    codes "{op = \"write\", cpu = " ++ (decimal write.cpu ++ (codes ", reg = \"RAX\", width = 8, value = " ++ (decimal write.value ++ codes "}")))

-- between two entries of a list
abbrev pub comma : List ℕ
comma = codes ", "

abbrev pub statuses_text : List Arrival → List ℕ
statuses_text statuses = join_by quoted_word comma statuses

abbrev pub writes_text : List RaxWrite → List ℕ
writes_text writes = join_by write_text comma writes

-- what follows the first wave's statuses: the second wave and the handler
abbrev pub second_wave_text : List ℕ → List ℕ → List ℕ
second_wave_text second ops =
    codes "]\nmanage = [\"root\"]\n\n[[wave]]\nstatus = [" ++ (second
    ++ (codes "]\nmanage = [\"root\"]\n\n[[handler]]\nname = \"h0\"\ntype = \"root\"\nanswer = \"SUCCESS\"\nops = [" ++ (ops
    ++ codes "]\n")))

-- a file with its number of processors, its mode, its two lists of statuses and its list of operations
abbrev pub file_text : ℕ → List ℕ → List ℕ → List ℕ → List ℕ → List ℕ
file_text processors mode first second ops =
    codes "version = 1\nprocessors = " ++ (decimal processors
    ++ (codes "\nmap = \"intel64\"\npolicy = \"elected\"\nmode = \"" ++ (mode
    ++ (codes "\"\npolls = [16, 16]\nvisits = 8\nops = 64\n\n[[wave]]\nstatus = [" ++ (first
    ++ second_wave_text second ops)))))

-- the file that tells a plan
unfoldable pub text_of : Plan → List ℕ
text_of plan = file_text plan.processors (mode_word plan.mode) (statuses_text plan.first) (statuses_text plan.second) (writes_text plan.writes)

-- the file of n processors that a seed makes
abbrev pub text_of_generated : ℕ → ℕ → List ℕ
text_of_generated seed n = text_of (generated_plan seed n)
