-- What a contract sees of a form.
use Rattle.rustsec_program.specs.Checked as checked
use Rattle.rustsec_program.specs.declared.forms.Form as declared
use Rattle.rustsec_program.specs.declared.forms.Form.TheVariants as form

abbrev pub form_view : declared.Form → checked.Form
form_view (form.Text colored) = checked.text colored
form_view form.Json = checked.json
form_view (form.Sarif path) = checked.sarif path.now
form_view form.Html = checked.html
form_view form.Markdown = checked.markdown
form_view (form.Line path) = checked.line path.now
