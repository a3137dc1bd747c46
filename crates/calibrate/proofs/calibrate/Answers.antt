use Rattle.std.proofs.Common.{◌≡◌, ◌∙◌, rules}
use Rattle.report.specs.Report.{report_of}
use Rattle.calibrate.proofs.calibrate.Goals as goal

pub returns : goal.returns
returns g c =
    let written : c.text.result.now ≡ report_of c.bytes.result.now 8192 = c.text.ensures ∙ c.report_on-report.ensures.report_promise.report in
    record {
      front = c.bytes.result.now;
      size = c.bytes.ensures.fits;
      taken = rw c.bytes.ensures.value (search rules);
      whole = rw c.bytes.ensures.value (search rules);
      written = rw (← written) c.write_all-writing.ensures.bytes;
    }
