-- What is left in a source once a site text was read.
use Rattle.std.proofs.Common.{◌≡◌, Bool, true, false, [], sym, ap, ◌∙◌, subst, arith}
use Rattle.std.specs.Bool.{OnFalse}
use Rattle.std.specs.Prelude.{Option, Some, None, if◌then◌else◌}
use Rattle.std.specs.Option.{option_map}
use Rattle.std.specs.Io.KnownBytes.{IsAtEnd, prepend_known}
use Rattle.dup_io.proofs.Buffers.{few_buffered}
use Rattle.dup_io.specs.Lines.{buffered, source_of, to_read}
use Rattle.dup_io.specs.declared.lines.Lines.{Lines}
use Rattle.dup_names.specs.Lines.{Reading, Whole, reading}
use Rattle.dup_names.specs.Words.{Word}
use Rattle.dup_main.specs.Reach.{LeavesScript, ReadsNoFurther}
use Rattle.dup_main.specs.Stops.{ReadsSite}

-- behind the line that ends the site text
pub left_behind : {S : Type 0} (left : S → Option Word) (all : Option Reading) (lines : Lines S) (text : Word) → ReadsSite all (to_read left lines) text
    → LeavesScript all (left (source_of lines))
left_behind left None lines text reads = tt
left_behind left (Some all) lines text reads = known (left (source_of lines)) reads
  where
    known : (rest : Option Word) → ReadsSite (Some all) (option_map (reading lines.number lines.taken) (prepend_known (buffered lines) rest)) text → LeavesScript (Some all) rest
    known None reads = tt
    known (Some rest) reads = (buffered lines, lines.number, lines.taken, few_buffered lines, reads.behind)

-- at the end of the input
pub left_at_end : (all : Option Reading) (left : Option Word) (text : Word) → ReadsSite all (Some Whole) text → IsAtEnd left → LeavesScript all left
left_at_end None left text reads end = tt
left_at_end (Some all) None text reads end = tt
left_at_end (Some all) (Some left) text reads end =
    ([], 0, 0, omega arith, reads.behind ∙ ap (reading 0 0) (sym end))

pub no_further : {S : Type 0} (left : S → Option Word) (script : Bool) (input end : Option Word) (all : Option Reading) (lines : Lines S) (text : Word)
    → all ≡ option_map (reading 0 0) input → left (source_of lines) ≡ end → ReadsSite all (if script then to_read left lines else Some Whole) text
    → OnFalse script (IsAtEnd (left (source_of lines))) → ReadsNoFurther input end
no_further left script input end all lines text is at reads ended =
    subst (λ (r : Option Reading). LeavesScript r end) is (subst (LeavesScript all) at (by_end script reads ended))
  where
    by_end : (b : Bool) → ReadsSite all (if b then to_read left lines else Some Whole) text → OnFalse b (IsAtEnd (left (source_of lines))) → LeavesScript all (left (source_of lines))
    by_end true reads ended = left_behind left all lines text reads
    by_end false reads ended = left_at_end all (left (source_of lines)) text reads ended
