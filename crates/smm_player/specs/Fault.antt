-- The fault by each reader's error: want of memory, or a refusal.
use Rattle.image_file.specs.declared.error.ImagesError.{ImagesError}
use Rattle.image_file.specs.declared.error.ImagesError.TheVariants as images
use Rattle.platform_file.specs.declared.error.PlatformError.{PlatformError}
use Rattle.platform_file.specs.declared.error.PlatformError.TheVariants as platform
use Rattle.schedule_file.specs.declared.error.ScheduleError.{ScheduleError}
use Rattle.schedule_file.specs.declared.error.ScheduleError.TheVariants as schedule
use Rattle.smm_player.specs.declared.images.ImagesFault.TheVariants.{File}
use Rattle.smm_player.specs.declared.refusal.Refusal.TheVariants.{Platform, Images, Schedule}
use Rattle.smm_player.specs.declared.fault.Fault.{Fault}
use Rattle.smm_player.specs.declared.fault.Fault.TheVariants.{Refused, Memory}

abbrev pub platform_fault : PlatformError → Fault
platform_fault platform.NoMemory = Memory
platform_fault error = Refused (Platform error)

abbrev pub images_fault : ImagesError → Fault
images_fault images.NoMemory = Memory
images_fault error = Refused (Images (File error))

abbrev pub schedule_fault : ScheduleError → Fault
schedule_fault schedule.NoMemory = Memory
schedule_fault error = Refused (Schedule error)
