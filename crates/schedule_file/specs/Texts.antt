-- What an error prints: the words that a fault line tells.
use Rattle.std.specs.Prelude.{ℕ, List, ◌++◌, codes, decimal}
use Rattle.schedule_file.specs.declared.error.ScheduleError.{ScheduleError}
use Rattle.schedule_file.specs.declared.error.ScheduleError.TheVariants.{Token, Actor, TooLong, NoMemory}

abbrev pub schedule_error_text : ScheduleError → List ℕ
schedule_error_text (Token at) = codes "token " ++ decimal at
schedule_error_text (Actor at number) = codes "actor " ++ decimal at ++ codes " " ++ decimal number
schedule_error_text TooLong = codes "too-long"
schedule_error_text NoMemory = codes "no memory"
