-- For proofs that compute: `unfolding opened` opens every definition of the rules.
use mathlib.Core.List.{flat_map}
use Rattle.rules.specs.Basics
use Rattle.rules.specs.Refusal
use Rattle.rules.specs.Parsers
use Rattle.rules.specs.Markup
use Rattle.rules.specs.Calendar
use Rattle.rules.specs.Dates
use Rattle.rules.specs.Timestamp
use Rattle.rules.specs.Forms
use Rattle.rules.specs.Invariants
use Rattle.rules.specs.Types
use Rattle.rules.specs.Judge
use Rattle.rules.specs.Utf8
use Rattle.rules.specs.Check
use Rattle.rules.specs.Sets
use Rattle.rules.specs.LentLists
use Rattle.rules.specs.Stretches
use Rattle.rules.specs.Listing
use Rattle.rules.specs.Comparison
use Rattle.rules.specs.Services
use Rattle.rules.specs.Printing
use Rattle.rules.specs.Totals
use Rattle.rules.specs.Desks
use Rattle.rules.specs.DeskNumbers
use Rattle.rules.specs.ListingPromise
use Rattle.rules.specs.ComparisonPromise
use Rattle.rules.specs.TotalDays

unfoldable pub opened : Unit {0}
unfolding flat_map Basics.find Basics.exists Basics.every Basics.same Basics.begins Basics.split Basics.one_of Basics.decimal_from Basics.digits_of Refusal.rank_in Refusal.first_of Parsers.front Parsers.after Parsers.one Parsers.many Parsers.times Parsers.up_to Parsers.literal Parsers.finish Markup.some_space Markup.name Markup.reference Markup.noncharacter Markup.char Markup.text Markup.value Markup.attribute Markup.attributes Markup.lookup Markup.is_distinct Markup.tag_attributes Markup.end_tag Markup.document Markup.element Calendar.month_length Calendar.days_of_years Calendar.days_of_months Timestamp.digits Timestamp.two_digits Timestamp.point Timestamp.hours Timestamp.zone Timestamp.timestamp Timestamp.written_faults Timestamp.start_of Timestamp.unit_length Timestamp.tick_at Timestamp.read_timestamp Forms.amount_text Forms.is_plain_number Forms.is_oid Forms.is_root Forms.form_faults Invariants.child_named Invariants.endpoint_of Types.line_of Judge.attribute_faults Judge.element_faults Judge.child_faults Utf8.lead_of Utf8.follows Utf8.longest Check.record_faults Check.check Sets.meant Sets.intervals Stretches.insert Stretches.sorted Stretches.drawn Stretches.stretches Listing.set_from Listing.interval_count Listing.list_element Listing.members_of Comparison.compare_moments Comparison.compare_all_parts Comparison.comparer_of Comparison.comparer_for Services.comparison Services.listing Services.low_bytes Services.timing Services.cutting Dates.reached Dates.years_end Dates.year_at Dates.month_at Dates.date_text Dates.clock_text Printing.flag_text Printing.bound_text Printing.term_text Printing.record_text LentLists.rows_of LentLists.stretches_in LentLists.any_neighbours LentLists.is_improper LentLists.unsigned LentLists.numbers_from Printing.printing Totals.is_held_twice Totals.is_damaged Totals.reading Totals.fitting Totals.posting Totals.entered Totals.reporting Desks.rows_for Desks.with_rows Desks.is_faulty Desks.of_desk DeskNumbers.rows_in ListingPromise.has_unclear ListingPromise.mean_place ComparisonPromise.has_null_part TotalDays.reached TotalDays.answers TotalDays.how_many TotalDays.sum_added TotalDays.currencies_added
opened = tt
