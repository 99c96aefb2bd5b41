-- The stops that faults of reading lines and site texts are.
use Rattle.dup_io.specs.declared.lines.LineFault.{LineFault}
use Rattle.dup_io.specs.declared.lines.LineFault.TheVariants as fault
use Rattle.dup_template.specs.declared.refusal.SiteTextRefusal.{SiteTextRefusal}
use Rattle.dup_template.specs.declared.refusal.SiteTextRefusal.TheVariants as refusal
use Rattle.dup_main.specs.declared.stop.Stop.{Stop}
use Rattle.dup_main.specs.declared.stop.Stop.TheVariants.{ReadFault, BadSite, NoMemory, LineTooLong, InputTooLong}

abbrev pub stop_of : LineFault → Stop
stop_of fault.ReadFault = ReadFault
stop_of (fault.LineTooLong number) = LineTooLong number
stop_of fault.InputTooLong = InputTooLong
stop_of fault.NoMemory = NoMemory

abbrev pub site_stop : SiteTextRefusal → Stop
site_stop refusal.NoMemory = NoMemory
site_stop why = BadSite why
